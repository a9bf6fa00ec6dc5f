-- Words that are a request, and words that are none.
use Rattle.std.specs.Prelude.{◌≡◌, [], ◌∷◌, Some, None, codes}
use Rattle.std.proofs.Common.{refl}
use Rattle.mss_timetable.specs.declared.request.Request.TheVariants.{Cycle, New, Check}
use Rattle.mss_timetable.specs.Requests.{request, tries_in}

most-tries : tries_in (codes "100000000") ≡ Some 100000000
most-tries = refl

too-many : tries_in (codes "100000001") ≡ None
too-many = refl

no-try : tries_in (codes "0") ≡ None
no-try = refl

today : request (codes "cycle" ∷ codes "2" ∷ codes "20000" ∷ []) ≡ Some (Cycle (record { number = 2; tries = 20000 }))
today = refl

from-nothing : request (codes "new" ∷ codes "0" ∷ codes "1" ∷ []) ≡ Some (New (record { number = 0; tries = 1 }))
from-nothing = refl

leading-zero : request (codes "new" ∷ codes "0" ∷ codes "01" ∷ []) ≡ None
leading-zero = refl

too-few-words : request (codes "cycle" ∷ codes "2" ∷ []) ≡ None
too-few-words = refl

lower-number : request (codes "check" ∷ []) ≡ Some Check
lower-number = refl

check-of-more : request (codes "check" ∷ codes "alike" ∷ []) ≡ None
check-of-more = refl
