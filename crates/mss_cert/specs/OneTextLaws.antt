-- A text is that of one certificate, or has a fault.
use Rattle.std.proofs.Common.{◌≡◌, ◌≢◌, ℕ, List, [], ◌∷◌, ◌++◌, codes, refl, sym, ◌∙◌, ap, subst, append_assoc, decimal, Ok, Err, Result, IfOk, IfErr, MatchResult}
use Rattle.std.specs.List.{AllByRecursion}
use Rattle.mss_lines.specs.Fields.{AreShort, fields}
use Rattle.mss_lines.specs.Lines.{IsOneLine}
use Rattle.mss_lines.specs.OneLineLaws.{one_line-append, number-one_line, fields-one_line, is_one_line, tells_one_line, no_end_in, same_line}
use Rattle.mss_cert.specs.declared.certificate.Line.{Line}
use Rattle.mss_cert.specs.declared.certificate.Line.TheVariants.{Branch, Dead, Full, Closed, OpenAt}
use Rattle.mss_cert.specs.declared.certificate.End.{End}
use Rattle.mss_cert.specs.declared.certificate.End.TheVariants.{Lower, NoneLegal}
use Rattle.mss_cert.specs.declared.certificate.Certificate.{Certificate}
use Rattle.mss_cert.specs.declared.faults.CertKind.{CertKind}
use Rattle.mss_cert.specs.declared.faults.CertKind.TheVariants as kind
use Rattle.mss_cert.specs.declared.faults.CertRefusal.{CertRefusal}
use Rattle.mss_cert.specs.declared.faults.CertRefusal.TheVariants as refused
use Rattle.mss_cert.specs.declared.reading.Row.TheVariants.{Tree, Last}
use Rattle.mss_cert.specs.CertificateText.{IsShort, IsShortLine, IsShortEnd, line_text, tree_text, end_text, head_text, certificate_text}
use Rattle.mss_cert.specs.CertificateFaults.{IsTreeLine, HasVersion, IsAfterHead, HasNoHead, IsFaultAt, RefusesText}
use Rattle.mss_cert.specs.Rows.{IsBodyFault, RefusesBody}
use Rattle.mss_cert.specs.LineWordsLaws.{same_row, same_head}
use Rattle.mss_cert.specs.VersionsLaws.{same_version, one_version}

-- ---- lines

line-one_line : (line : Line) → IsShortLine line → IsOneLine (line_text line)
unfolding is_one_line
line-one_line (Branch turn) h = one_line-append (codes "branch") (fields (turn ∷ [])) (tells_one_line (codes "branch") refl) (fields-one_line (turn ∷ []) h)
line-one_line (Dead rule) h = one_line-append (codes "dead") (fields (rule ∷ [])) (tells_one_line (codes "dead") refl) (fields-one_line (rule ∷ []) h)
line-one_line (Full turn number ward day) h = one_line-append (codes "full") (fields (turn ∷ number ∷ ward ∷ day ∷ [])) (tells_one_line (codes "full") refl) (fields-one_line (turn ∷ number ∷ ward ∷ day ∷ []) h)
line-one_line (Closed turn number ward day) h = one_line-append (codes "closed") (fields (turn ∷ number ∷ ward ∷ day ∷ [])) (tells_one_line (codes "closed") refl) (fields-one_line (turn ∷ number ∷ ward ∷ day ∷ []) h)
line-one_line (OpenAt number ward day) h = one_line-append (codes "open") (fields (number ∷ ward ∷ day ∷ [])) (tells_one_line (codes "open") refl) (fields-one_line (number ∷ ward ∷ day ∷ []) h)

pub end-one_line : (end : End) → IsShortEnd end → IsOneLine (end_text end)
unfolding is_one_line
end-one_line (Lower number) h = one_line-append (codes "lower") (fields (number ∷ [])) (tells_one_line (codes "lower") refl) (fields-one_line (number ∷ []) h)
end-one_line NoneLegal h = tells_one_line (codes "none") refl

head-one_line : (slots options level : ℕ) → AreShort (slots ∷ options ∷ level ∷ []) → IsOneLine (head_text slots options level)
unfolding is_one_line
head-one_line slots options level h =
    one_line-append (codes "slots ") (decimal slots ++ (codes " options " ++ (decimal options ++ (codes " level" ++ fields (level ∷ []))))) (tells_one_line (codes "slots ") refl)
    (one_line-append (decimal slots) (codes " options " ++ (decimal options ++ (codes " level" ++ fields (level ∷ [])))) (number-one_line slots h.0)
    (one_line-append (codes " options ") (decimal options ++ (codes " level" ++ fields (level ∷ []))) (tells_one_line (codes " options ") refl)
    (one_line-append (decimal options) (codes " level" ++ fields (level ∷ [])) (number-one_line options h.1.0)
    (one_line-append (codes " level") (fields (level ∷ [])) (tells_one_line (codes " level") refl) (fields-one_line (level ∷ []) h.1.1)))))

-- ---- trees

-- no line of a tree begins the bytes
abbrev pub IsTail : List ℕ → Type 0
IsTail bytes = (line : Line) (rest : List ℕ) → IsShortLine line → bytes ≢ line_text line ++ (10 ∷ rest)

-- a text of a tree and a tail is that of one tree and one tail
pub same_trees : (ls ms : List Line) (x y : List ℕ) → AllByRecursion IsShortLine ls → AllByRecursion IsShortLine ms → IsTail x → IsTail y
    → tree_text ls ++ x ≡ tree_text ms ++ y → (ls ≡ ms) × (x ≡ y)
same_trees [] [] x y p q u v h = (refl, h)
same_trees [] (m ∷ ms) x y p q u v h = absurd (u m (tree_text ms ++ y) q.0 (h ∙ append_assoc (line_text m) (10 ∷ tree_text ms) y))
same_trees (l ∷ ls) [] x y p q u v h = absurd (v l (tree_text ls ++ x) p.0 (sym h ∙ append_assoc (line_text l) (10 ∷ tree_text ls) x))
same_trees (l ∷ ls) (m ∷ ms) x y p q u v h =
    let one = same_line (line_text l) (line_text m) (tree_text ls ++ x) (tree_text ms ++ y) (line-one_line l p.0) (line-one_line m q.0)
    (sym (append_assoc (line_text l) (10 ∷ tree_text ls) x) ∙ h ∙ append_assoc (line_text m) (10 ∷ tree_text ms) y) in
    let row : Tree l ≡ Tree m = same_row (line_text l) (Tree l) (Tree m) (p.0, refl) (q.0, one.0) in
    let head : l ≡ m = cc in
    let later = same_trees ls ms x y p.1 q.1 u v one.1 in
    let all : l ∷ ls ≡ m ∷ ms = cc (later.0) in (all, later.1)

pub end-tail : (end : End) (rest : List ℕ) → IsShortEnd end → IsTail (end_text end ++ (10 ∷ rest))
end-tail end rest p line later q h =
    let one = same_line (end_text end) (line_text line) rest later (end-one_line end p) (line-one_line line q) h in
    let row : Last end ≡ Tree line = same_row (end_text end) (Last end) (Tree line) (p, refl) (q, one.0) in cc

pub bad-tail : (bad rest : List ℕ) → IsOneLine bad → (IsTreeLine bad → ⊥) → IsTail (bad ++ (10 ∷ rest))
bad-tail bad rest one none line later q h =
    none (record { line = line; short = q; text = (same_line bad (line_text line) rest later one (line-one_line line q) h).0 })

pub left-tail : (left : List ℕ) → IsOneLine left → IsTail left
left-tail left one line later q h = no_end_in (line_text line) later (subst IsOneLine h one)

-- ---- the first two lines

-- what follows the first two lines
pub after_head : (bytes x y : List ℕ) → IsAfterHead bytes x → (s o v : ℕ) → AreShort (s ∷ o ∷ v ∷ []) → HasVersion bytes (head_text s o v ++ (10 ∷ y)) → x ≡ y
after_head bytes x y a s o v short h =
    (same_line (head_text a.slots a.options a.level) (head_text s o v) x y (head-one_line a.slots a.options a.level a.short) (head-one_line s o v short)
    (one_version bytes (head_text a.slots a.options a.level ++ (10 ∷ x)) (head_text s o v ++ (10 ∷ y)) a.first h)).1

-- ---- the text of a certificate has no fault

own_version : (c : Certificate) → IsShort c → HasVersion (certificate_text c) (head_text c.slots c.options c.level ++ (10 ∷ (tree_text c.tree ++ (end_text c.end ++ 10 ∷ []))))
own_version c p = record { version = c.version; known = p.version; parts = refl }

pub text_is_good : (c : Certificate) (kind : CertKind) (at : ℕ) → IsShort c → IsFaultAt (certificate_text c) kind at → ⊥
text_is_good c kind.TooLong at p f = f
text_is_good c kind.Version at p f = f.0 (head_text c.slots c.options c.level ++ (10 ∷ (tree_text c.tree ++ (end_text c.end ++ 10 ∷ [])))) (own_version c p)
text_is_good c kind.Head at p f =
    f.0.none c.slots c.options c.level (tree_text c.tree ++ (end_text c.end ++ 10 ∷ [])) p.head
    (one_version (certificate_text c) f.0.later (head_text c.slots c.options c.level ++ (10 ∷ (tree_text c.tree ++ (end_text c.end ++ 10 ∷ [])))) f.0.first (own_version c p))
text_is_good c kind.Line at p f =
    let b = f.2 in
    let rest : f.0 ≡ tree_text c.tree ++ (end_text c.end ++ 10 ∷ []) = after_head (certificate_text c) f.0 (tree_text c.tree ++ (end_text c.end ++ 10 ∷ [])) f.1 c.slots c.options c.level p.head (own_version c p) in
    let both = same_trees b.tree c.tree (b.bad ++ (10 ∷ b.later)) (end_text c.end ++ 10 ∷ []) b.short p.tree (bad-tail b.bad b.later b.whole b.no_line) (end-tail c.end [] p.last) (sym b.parts ∙ rest) in
    let one = same_line b.bad (end_text c.end) b.later [] b.whole (end-one_line c.end p.last) both.1 in
    b.no_end (record { end = c.end; short = p.last; text = one.0 })
text_is_good c kind.NoEnd at p f =
    let b = f.2 in
    let rest : f.0 ≡ tree_text c.tree ++ (end_text c.end ++ 10 ∷ []) = after_head (certificate_text c) f.0 (tree_text c.tree ++ (end_text c.end ++ 10 ∷ [])) f.1 c.slots c.options c.level p.head (own_version c p) in
    let both = same_trees b.tree c.tree b.left (end_text c.end ++ 10 ∷ []) b.short p.tree (left-tail b.left b.unfinished) (end-tail c.end [] p.last) (sym b.parts ∙ rest) in
    no_end_in (end_text c.end) [] (subst IsOneLine both.1 b.unfinished)
text_is_good c kind.After at p f =
    let b = f.2 in
    let rest : f.0 ≡ tree_text c.tree ++ (end_text c.end ++ 10 ∷ []) = after_head (certificate_text c) f.0 (tree_text c.tree ++ (end_text c.end ++ 10 ∷ [])) f.1 c.slots c.options c.level p.head (own_version c p) in
    let both = same_trees b.tree c.tree (end_text b.last ++ (10 ∷ (b.byte ∷ b.later))) (end_text c.end ++ 10 ∷ []) b.short p.tree (end-tail b.last (b.byte ∷ b.later) b.short_last) (end-tail c.end [] p.last) (sym b.parts ∙ rest) in
    let one = same_line (end_text b.last) (end_text c.end) (b.byte ∷ b.later) [] (end-one_line b.last b.short_last) (end-one_line c.end p.last) both.1 in
    let none : b.byte ∷ b.later ≡ [] = one.1 in cc

-- ---- the text of a certificate is of no other

abbrev make : ℕ → ℕ → ℕ → ℕ → List Line → End → Certificate
make version slots options level tree end = record { version = version; slots = slots; options = options; level = level; tree = tree; end = end }

pub same_certificate : (c d : Certificate) → IsShort c → IsShort d → certificate_text c ≡ certificate_text d → c ≡ d
same_certificate c d p q h =
    let first = same_version c.version d.version (head_text c.slots c.options c.level ++ (10 ∷ (tree_text c.tree ++ (end_text c.end ++ 10 ∷ []))))
    (head_text d.slots d.options d.level ++ (10 ∷ (tree_text d.tree ++ (end_text d.end ++ 10 ∷ [])))) p.version q.version h in
    let heads = same_line (head_text c.slots c.options c.level) (head_text d.slots d.options d.level) (tree_text c.tree ++ (end_text c.end ++ 10 ∷ [])) (tree_text d.tree ++ (end_text d.end ++ 10 ∷ []))
    (head-one_line c.slots c.options c.level p.head) (head-one_line d.slots d.options d.level q.head) first.1 in
    let head = same_head c.slots c.options c.level d.slots d.options d.level p.head q.head heads.0 in
    let trees = same_trees c.tree d.tree (end_text c.end ++ 10 ∷ []) (end_text d.end ++ 10 ∷ []) p.tree q.tree (end-tail c.end [] p.last) (end-tail d.end [] q.last) heads.1 in
    let ends = same_line (end_text c.end) (end_text d.end) [] [] (end-one_line c.end p.last) (end-one_line d.end q.last) trees.1 in
    let row : Last c.end ≡ Last d.end = same_row (end_text c.end) (Last c.end) (Last d.end) (p.last, refl) (q.last, ends.0) in
    let end : c.end ≡ d.end = cc in
    ap (λ x. make x c.slots c.options c.level c.tree c.end) first.0
    ∙ ap (λ x. make d.version x c.options c.level c.tree c.end) head.0 ∙ ap (λ x. make d.version d.slots x c.level c.tree c.end) head.1
    ∙ ap (λ x. make d.version d.slots d.options x c.tree c.end) head.2 ∙ ap (λ x. make d.version d.slots d.options d.level x c.end) trees.0
    ∙ ap (λ x. make d.version d.slots d.options d.level d.tree x) end

-- what is read from the text of a certificate is this one, unless memory is wanting
pub reads_only : (bytes : List ℕ) (r : Result Certificate CertRefusal) → IfOk r (λ c. IsShort c × (bytes ≡ certificate_text c)) → IfErr r (RefusesText bytes)
    → (c : Certificate) → IsShort c → bytes ≡ certificate_text c → MatchResult r (λ found. found ≡ c) (λ refusal. refusal ≡ refused.NoMemory)
reads_only bytes (Ok found) ok err c short text = same_certificate found c ok.0 short (sym ok.1 ∙ text)
reads_only bytes (Err (refused.Fault told)) ok err c short text = absurd (text_is_good c told.kind told.line short (subst (λ b. IsFaultAt b told.kind told.line) text err))
reads_only bytes (Err refused.NoMemory) ok err c short text = refl

-- ---- the first fault of a text

-- no line ends behind the first one
pub lacks_head : (bytes rest : List ℕ) → HasVersion bytes rest → IsOneLine rest → HasNoHead bytes
lacks_head bytes rest first one = record {
  later = rest;
  first = first;
  none = λ s o v later short h. no_end_in (head_text s o v) later (subst IsOneLine h one);
}

-- the second line is another one
pub other_head : (bytes rest line later : List ℕ) → HasVersion bytes rest → IsOneLine line → rest ≡ line ++ (10 ∷ later)
    → ((s o v : ℕ) → AreShort (s ∷ o ∷ v ∷ []) → line ≢ head_text s o v) → HasNoHead bytes
other_head bytes rest line later first one parts none = record {
  later = rest;
  first = first;
  none = λ s o v more short h. none s o v short (same_line line (head_text s o v) later more one (head-one_line s o v short) (sym parts ∙ h)).0;
}

-- a refusal of what follows the first two lines
pub refused_text : (bytes rest line later : List ℕ) (s o v : ℕ) → HasVersion bytes rest → rest ≡ line ++ (10 ∷ later) → AreShort (s ∷ o ∷ v ∷ []) → line ≡ head_text s o v
    → (r : CertRefusal) → RefusesBody later r → RefusesText bytes r
refused_text bytes rest line later s o v first parts short text refused.NoMemory h = tt
refused_text bytes rest line later s o v first parts short text (refused.Fault told) h = at told.kind told.line h
  where
    head : IsAfterHead bytes later
    head = record {
      slots = s;
      options = o;
      level = v;
      short = short;
      first = subst (HasVersion bytes) (parts ∙ ap (λ xs. xs ++ (10 ∷ later)) text) first;
    }

    at : (k : CertKind) (n : ℕ) → IsBodyFault later k n → IsFaultAt bytes k n
    at kind.TooLong n f = f
    at kind.Version n f = absurd f
    at kind.Head n f = absurd f
    at kind.Line n f = (later, head, f)
    at kind.NoEnd n f = (later, head, f)
    at kind.After n f = (later, head, f)
