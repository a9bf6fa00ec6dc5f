use Rattle.std.proofs.Common.{◌≡◌, ◌∷◌, ℕ, List, map, take, Bor}
use Rattle.mss_rows.specs.Written.{text_of}
use Rattle.mss_gen.specs.Rows.{by_specialty}
use Rattle.mss_gen.proofs.tables.table_text.Given as goal

abbrev pub invariant-loop-place : goal.invariant-loop-place
invariant-loop-place g l = l.text ≡ text_of (map (λ (field : Bor (List ℕ)). field.now) l.header ∷ by_specialty (g.T.SpecialtyRows.rows l.table) 1 (take l.place l.specialties))
