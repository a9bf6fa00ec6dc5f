-- How the puts of a reply and its text add up.
use Rattle.std.proofs.Common.{◌≡◌, ◌<◌, ◌≤◌, ℕ, zero, suc, ◌+◌, List, [], ◌∷◌, ◌++◌, map, length, take, drop, get_or, Option, Some, None, refl, sym, ap, subst, ◌∙◌, arith, add-one}
use Rattle.std.specs.FinMap.{insert}
use Rattle.mss_desk.specs.Desk.{Files, Content, BothTold, Puts, Says, SameBut}
use Rattle.mss_desk.specs.declared.desk.WriteAnswer.{WriteAnswer}
use Rattle.mss_desk.specs.declared.desk.WriteAnswer.TheVariants as writes
use Rattle.mss_command.specs.declared.reply.Put.{Put}
use Rattle.mss_command.specs.declared.reply.Reply.{Reply}
use Rattle.mss_command.specs.Outcome.{Outcome, outcome_of, put_of, put_all, DidFirst, DidPartly, at_put, at_say, Delivers}

-- these files were put, and nothing was said
pub record DidPuts (ps : List (List ℕ × List ℕ)) (c d : Content) : Type 0 where
  pub files : d.files ≡ put_all ps c.files
  pub said : d.said ≡ c.said

pub both_then : (t u v : Option Content) (P Q R : Content → Content → Type 0) → ((c d e : Content) → P c d → Q d e → R c e)
    → BothTold t u P → BothTold u v Q → BothTold t v R
both_then (Some c) (Some d) (Some e) P Q R f p q = f c d e p q
both_then (Some c) (Some d) None P Q R f p q = absurd q
both_then (Some c) None v P Q R f p q = absurd p
both_then None (Some d) v P Q R f p q = absurd p
both_then None None (Some e) P Q R f p q = absurd q
both_then None None None P Q R f p q = tt

pub both_start : (t : Option Content) → BothTold t t (DidPuts [])
both_start (Some c) = record { files = refl; said = refl }
both_start None = tt

pub put_all-append : (ps : List (List ℕ × List ℕ)) (p : List ℕ × List ℕ) (m : Files) → put_all (ps ++ p ∷ []) m ≡ insert (put_all ps m) p.0 p.1
put_all-append [] p m = refl
put_all-append (q ∷ ps) p m = put_all-append ps p (insert m q.0 q.1)

pub put_done : (ps : List (List ℕ × List ℕ)) (name bytes : List ℕ) (c d e : Content) → DidPuts ps c d → Puts name bytes writes.Done d e → DidPuts (ps ++ (name, bytes) ∷ []) c e
put_done ps name bytes c d e p q = record {
  files = q.0 ∙ ap (λ m. insert m name bytes) p.files ∙ sym (put_all-append ps (name, bytes) c.files);
  said = q.1 ∙ p.said;
}

pub put_failed : (o : Outcome) (ps : List (List ℕ × List ℕ)) (name bytes : List ℕ) (after : List (List ℕ × List ℕ)) → o.puts ≡ ps ++ (name, bytes) ∷ after
    → (c d e : Content) → DidPuts ps c d → Puts name bytes writes.Failed d e → DidPartly o c e
put_failed o ps name bytes after is c d e p q = at_put ps name bytes after is (subst (λ m. SameBut name m e.files) p.files q.0) (q.1 ∙ p.said)

pub put_wanting : (o : Outcome) (ps : List (List ℕ × List ℕ)) (name bytes : List ℕ) (count : ℕ) → ps ≡ take count o.puts
    → (c d e : Content) → DidPuts ps c d → Puts name bytes writes.NoMemory d e → DidFirst o c e
put_wanting o ps name bytes count is c d e p q = record {
  count = count;
  files = q.0 ∙ p.files ∙ ap (λ qs. put_all qs c.files) is;
  said = q.1 ∙ p.said;
}

pub said_all : (o : Outcome) (count : ℕ) → o.puts ≡ take count o.puts → (answer : WriteAnswer) (c d e : Content) → DidPuts o.puts c d → Says o.text answer d e → Delivers o answer c e
said_all o count all writes.Done c d e p q = record { files = q.0 ∙ p.files; said = q.1 ∙ ap (λ s. s ++ o.text) p.said }
said_all o count all writes.Failed c d e p q = at_say q.1.0 (q.0 ∙ p.files) (q.1.1 ∙ ap (λ s. s ++ take q.1.0 o.text) p.said)
said_all o count all writes.NoMemory c d e p q = record { count = count; files = q.0 ∙ p.files ∙ ap (λ ps. put_all ps c.files) all; said = q.1 ∙ p.said }

pub next_item : (xs : List Put) (i : ℕ) (x : Put) → i < length xs → x ≡ get_or xs i x → map put_of (take (suc i) xs) ≡ map put_of (take i xs) ++ put_of x ∷ []
next_item [] i x h e = absurd (omega arith)
next_item (y ∷ xs) zero x h e = ap (λ z. put_of z ∷ []) (sym e)
next_item (y ∷ xs) (suc i) x h e = ap (λ r. put_of y ∷ r) (next_item xs i x (omega arith) e)

pub from_item : (xs : List Put) (i : ℕ) (x : Put) → i < length xs → x ≡ get_or xs i x → map put_of xs ≡ map put_of (take i xs) ++ put_of x ∷ map put_of (drop (suc i) xs)
from_item [] i x h e = absurd (omega arith)
from_item (y ∷ xs) zero x h e = ap (λ z. put_of z ∷ map put_of xs) (sym e)
from_item (y ∷ xs) (suc i) x h e = ap (λ r. put_of y ∷ r) (from_item xs i x (omega arith) e)

pub first_items : (xs : List Put) (i : ℕ) → map put_of (take i xs) ≡ take i (map put_of xs)
first_items [] zero = refl
first_items [] (suc i) = refl
first_items (y ∷ xs) zero = refl
first_items (y ∷ xs) (suc i) = ap (λ r. put_of y ∷ r) (first_items xs i)

pub all_items : (xs : List Put) (i : ℕ) → length xs ≤ i → map put_of (take i xs) ≡ map put_of xs
all_items [] zero h = refl
all_items [] (suc i) h = refl
all_items (y ∷ xs) zero h = absurd (omega arith)
all_items (y ∷ xs) (suc i) h = ap (λ r. put_of y ∷ r) (all_items xs i (omega arith))

-- one more file is put
pub more_put : (t u v : Option Content) (xs : List Put) (i : ℕ) (x : Put) (bytes : List ℕ) → i < length xs → x ≡ get_or xs i x → bytes ≡ x.bytes
    → BothTold t u (DidPuts (map put_of (take i xs))) → BothTold u v (Puts x.name.now bytes writes.Done) → BothTold t v (DidPuts (map put_of (take (i + 1) xs)))
more_put t u v xs i x bytes h e same p q =
    both_then t u v _ _ _
    (λ c d w p q. subst (λ ps. DidPuts ps c w) (sym (ap (λ k. map put_of (take k xs)) (add-one i) ∙ next_item xs i x h e)) (put_done _ x.name.now x.bytes c d w p q))
    p (subst (λ b. BothTold u v (Puts x.name.now b writes.Done)) same q)

-- a file couldn't be put
pub failed_put : (t u v : Option Content) (r : Reply) (i : ℕ) (x : Put) (bytes : List ℕ) → i < length r.puts.items → x ≡ get_or r.puts.items i x → bytes ≡ x.bytes
    → BothTold t u (DidPuts (map put_of (take i r.puts.items))) → BothTold u v (Puts x.name.now bytes writes.Failed) → BothTold t v (DidPartly (outcome_of r))
failed_put t u v r i x bytes h e same p q =
    both_then t u v _ _ _
    (λ c d w p q. put_failed (outcome_of r) (map put_of (take i r.puts.items)) x.name.now x.bytes (map put_of (drop (suc i) r.puts.items)) (from_item r.puts.items i x h e) c d w p q)
    p (subst (λ b. BothTold u v (Puts x.name.now b writes.Failed)) same q)

-- memory was wanting for a file
pub wanting_put : (t u v : Option Content) (r : Reply) (i : ℕ) (x : Put) (bytes : List ℕ)
    → BothTold t u (DidPuts (map put_of (take i r.puts.items))) → BothTold u v (Puts x.name.now bytes writes.NoMemory) → BothTold t v (DidFirst (outcome_of r))
wanting_put t u v r i x bytes p q =
    both_then t u v _ _ _
    (λ c d w p q. put_wanting (outcome_of r) (map put_of (take i r.puts.items)) x.name.now bytes i (first_items r.puts.items i) c d w p q)
    p q

-- all files are put, and the text is said as far as the answer tells
pub said_after : (t u v : Option Content) (r : Reply) (i : ℕ) (text : List ℕ) (answer : WriteAnswer) → length r.puts.items ≤ i → text ≡ r.text
    → BothTold t u (DidPuts (map put_of (take i r.puts.items))) → BothTold u v (Says text answer) → BothTold t v (Delivers (outcome_of r) answer)
said_after t u v r i text answer h same p q =
    both_then t u v _ _ _
    (λ c d w p q. said_all (outcome_of r) i (sym (sym (first_items r.puts.items i) ∙ all_items r.puts.items i h)) answer c d w
    (subst (λ ps. DidPuts ps c d) (all_items r.puts.items i h) p) q)
    p (subst (λ s. BothTold u v (Says s answer)) same q)
