-- Two words, and more than three, are no request.
use Rattle.std.proofs.Common.{◌≡◌, ◌<◌, ◌≤◌, List, [], ◌∷◌, length, None, refl, arith}
use Rattle.std.specs.Prelude.{String}
use Rattle.std.specs.declared.alloc.Global.{Global}
use Rattle.mss_timetable.specs.Requests.{request_in}

pub two_words : (words : List (String Global)) → 2 ≤ length words → length words < 3 → None ≡ request_in words
two_words [] least few = absurd (omega (arith, least))
two_words (a ∷ []) least few = absurd (omega (arith, least))
two_words (a ∷ b ∷ []) least few = refl
two_words (a ∷ b ∷ c ∷ words) least few = absurd (omega (arith, few))

pub many_words : (words : List (String Global)) → 4 ≤ length words → None ≡ request_in words
many_words [] least = absurd (omega (arith, least))
many_words (a ∷ []) least = absurd (omega (arith, least))
many_words (a ∷ b ∷ []) least = absurd (omega (arith, least))
many_words (a ∷ b ∷ c ∷ []) least = absurd (omega (arith, least))
many_words (a ∷ b ∷ c ∷ d ∷ words) least = refl
