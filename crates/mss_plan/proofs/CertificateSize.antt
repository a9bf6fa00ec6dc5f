-- How long the text of a certificate is.
use Rattle.std.proofs.Common.{ℕ, ◌+◌, ◌*◌, ◌≤◌, List, [], ◌∷◌, ◌++◌, length, ap, arith, length-append}
use Rattle.std.specs.Prelude.{codes, decimal}
use Rattle.std.specs.List.{AllByRecursion}
use Rattle.std.proofs.lemmas.Fmt.{decimal_digit}
use Rattle.mss_model.specs.Limits.{Between}
use Rattle.mss_lines.specs.Fields.{fields, AreShort}
use Rattle.mss_lines.specs.FieldSizesLaws.{nine_digits, fields-long}
use Rattle.mss_cert.specs.declared.certificate.Line.{Line}
use Rattle.mss_cert.specs.declared.certificate.Line.TheVariants.{Branch, Dead, Full, Closed, OpenAt}
use Rattle.mss_cert.specs.declared.certificate.End.{End}
use Rattle.mss_cert.specs.declared.certificate.End.TheVariants.{Lower, NoneLegal}
use Rattle.mss_cert.specs.declared.certificate.Certificate.{Certificate}
use Rattle.mss_cert.specs.CertificateText.{IsShort, IsShortEnd, IsShortLine, certificate_text, end_text, head_text, line_text, tree_text, version_text}

line-long : (l : Line) → IsShortLine l → length (line_text l) ≤ 46
line-long (Branch turn) h = omega (arith, fields-long (turn ∷ []) h)
line-long (Dead rule) h = omega (arith, fields-long (rule ∷ []) h)
line-long (Full turn number ward day) h = omega (arith, fields-long (turn ∷ number ∷ ward ∷ day ∷ []) h)
line-long (Closed turn number ward day) h = omega (arith, fields-long (turn ∷ number ∷ ward ∷ day ∷ []) h)
line-long (OpenAt number ward day) h = omega (arith, fields-long (number ∷ ward ∷ day ∷ []) h)

end-long : (e : End) → IsShortEnd e → length (end_text e) ≤ 15
end-long (Lower number) h = omega (arith, fields-long (number ∷ []) h)
end-long NoneLegal h = omega arith

tree-long : (ls : List Line) → AllByRecursion IsShortLine ls → length (tree_text ls) ≤ 47 * length ls
tree-long [] h = omega arith
tree-long (l ∷ ls) h = omega (arith, line-long l h.0, tree-long ls h.1, length-append (line_text l) (10 ∷ tree_text ls))

head-long : (slots options level : ℕ) → AreShort (slots ∷ options ∷ level ∷ []) → length (head_text slots options level) ≤ 60
head-long slots options level h =
    omega (
      arith,
      nine_digits slots h.0,
      nine_digits options h.1.0,
      fields-long (level ∷ []) h.1.1,
      length-append (decimal slots) (codes " options" ++ (32 ∷ (decimal options ++ (codes " level" ++ fields (level ∷ []))))),
      length-append (decimal options) (codes " level" ++ fields (level ∷ [])),
    )

version-long : (version : ℕ) → Between 1 2 version → length (version_text version) ≤ 18
version-long version h = omega (arith, ap length (decimal_digit version (omega (arith, h.1))), length-append (decimal version) (10 ∷ []))

-- a certificate of short numbers has at most 47 bytes for each line of its tree, and 100 beside
pub certificate-long : (c : Certificate) → IsShort c → length (certificate_text c) ≤ 47 * length c.tree + 100
certificate-long c h =
    omega (
      arith,
      version-long c.version h.version,
      length-append (version_text c.version) (head_text c.slots c.options c.level ++ (10 ∷ (tree_text c.tree ++ (end_text c.end ++ 10 ∷ [])))),
      head-long c.slots c.options c.level h.head,
      tree-long c.tree h.tree,
      end-long c.end h.last,
      length-append (head_text c.slots c.options c.level) (10 ∷ (tree_text c.tree ++ (end_text c.end ++ 10 ∷ []))),
      length-append (tree_text c.tree) (end_text c.end ++ 10 ∷ []),
      length-append (end_text c.end) (10 ∷ []),
    )
