-- The list of an offset stands for the sum of its ages.
use Rattle.std.proofs.Common.{◌≡◌, ℕ, ◌+◌, ◌*◌, ◌-◌, ◌<◌, ◌≤◌, List, [], ◌∷◌, length, map, get_or, sum_by, refl, sym, ap, subst, ◌∙◌, arith}
use Rattle.std.proofs.lemmas.List.{length-map}
use Rattle.std.proofs.lemmas.List.Sums.{sum_by-cons}
use Rattle.std.proofs.lemmas.List.FromFn.{get_or-map-range_with_len, length-map-range_with_len}
use Rattle.mss_model.specs.BlockAtAge.{BlockView}
use Rattle.mss_model.specs.Occurrences.{offset_ages}
use Rattle.mss_model.proofs.OffsetAges.{age_count, sum-ages, age_count-within}
use Rattle.mss_enclose.specs.Unit.{unit}
use Rattle.mss_enclose.specs.Kept.{rest_of, StandsFor, Within, PartsStand, kept_convolution}
use Rattle.mss_enclose.specs.FloorLaws.{length-kept_convolution}
use Rattle.mss_enclose.specs.MassesLaws.{masses-start, masses-push, masses-near, rest-small}
use Rattle.mss_enclose.specs.ManyPushesLaws.{start-all, start-near, joined-length}
use Rattle.mss_thin.specs.SteadyLists.{offset_list, offset_lists, offset_sum, StandsByOffset}
use Rattle.mss_thin.specs.BlockAgesLaws.{AgesStand}

parts-stand : (kept exact : ℕ → List ℕ) (ns : List ℕ) → AgesStand kept exact → PartsStand (map kept ns) (map exact ns)
parts-stand kept exact [] h = tt
parts-stand kept exact (n ∷ ns) h = (h.stands n, parts-stand kept exact ns h)

sum_by-map : (g : List ℕ → ℕ) (f : ℕ → List ℕ) (ns : List ℕ) → sum_by g (map f ns) ≡ sum_by (λ n. g (f n)) ns
sum_by-map g f [] = refl
sum_by-map g f (n ∷ ns) =
    let e : sum_by g (map f (n ∷ ns)) ≡ g (f n) + sum_by g (map f ns) = sum_by-cons g (f n) (map f ns) in
    e ∙ ap (λ r. g (f n) + r) (sum_by-map g f ns) ∙ sym (sum_by-cons (λ n. g (f n)) n ns)

pub offset-stands : (kept exact : ℕ → List ℕ) (days ages o : ℕ) → AgesStand kept exact → StandsFor (offset_list kept days ages o) (offset_sum exact days ages o)
offset-stands kept exact days ages o h =
    let ns : List ℕ = offset_ages days ages o in
    start-all kept_convolution StandsFor masses-push masses-start (map kept ns) (map exact ns) (parts-stand kept exact ns h)

-- what the ages of an offset add to the length of the list
steps : (kept exact : ℕ → List ℕ) (days ages o : ℕ) → AgesStand kept exact →
    sum_by (λ p. length p - 1) (map kept (offset_ages days ages o)) ≤ 16 * age_count days ages o
steps kept exact days ages o h =
    rw (sum_by-map (λ p. length p - 1) kept (offset_ages days ages o))
    (sum-ages days o 16 (λ n. length (kept n) - 1) ages (λ n l. omega (arith, h.longs n)))

pub offset-long : (kept exact : ℕ → List ℕ) (days ages o : ℕ) → AgesStand kept exact → length (offset_list kept days ages o) ≤ 1 + 16 * age_count days ages o
offset-long kept exact days ages o h =
    let ns : List ℕ = offset_ages days ages o in
    let e : length (offset_list kept days ages o) ≡ length (unit ∷ []) + sum_by (λ p. length p - 1) (map kept ns)
    = joined-length kept_convolution length-kept_convolution (unit ∷ []) (map kept ns) (map exact ns) (parts-stand kept exact ns h) in
    omega (arith, e, steps kept exact days ages o h)

pub offset-rest : (kept exact : ℕ → List ℕ) (days ages o : ℕ) → AgesStand kept exact → ages ≤ 60 → rest_of (offset_list kept days ages o) ≤ 11118 * age_count days ages o
offset-rest kept exact days ages o h few =
    let ns : List ℕ = offset_ages days ages o in
    let within : age_count days ages o ≤ ages = age_count-within days o ages in
    let near : Within (sum_by rest_of (map kept ns) + length (map kept ns) * 961) (offset_list kept days ages o) (offset_sum exact days ages o)
    = start-near kept_convolution StandsFor masses-push masses-near length-kept_convolution masses-start 961 (map kept ns)
    (map exact ns) (parts-stand kept exact ns h) (omega (arith, steps kept exact days ages o h, within, few)) in
    let rests : sum_by rest_of (map kept ns) ≤ 10157 * age_count days ages o
    = rw (sum_by-map rest_of kept ns) (sum-ages days o 10157 (λ n. rest_of (kept n)) ages (λ n l. h.rests n (omega (arith, l, few)))) in
    let len : length (map kept ns) ≡ age_count days ages o = length-map ns kept in
    let small : rest_of (offset_list kept days ages o) ≤ sum_by rest_of (map kept ns) + length (map kept ns) * 961
    = rest-small (offset_list kept days ages o) (offset_sum exact days ages o) _ (offset-stands kept exact days ages o h) near in
    omega (arith, small, rests, len)

-- the lists of all offsets
pub by-offset : (kept exact : ℕ → List ℕ) (days : ℕ) (b : BlockView) (lists : List (List ℕ)) → AgesStand kept exact → length b.stays ≤ 60
    → lists ≡ offset_lists kept days (length b.stays) → StandsByOffset days b exact lists
by-offset kept exact days b lists h few e = record {
  offsets = ap length e ∙ length-map-range_with_len (offset_list kept days (length b.stays)) 0 days;
  stands = λ o l. subst (λ a. StandsFor a (offset_sum exact days (length b.stays) o)) (sym (at o l)) (offset-stands kept exact days (length b.stays) o h);
  rests = λ o l. subst (λ a. rest_of a ≤ 11118 * age_count days (length b.stays) o) (sym (at o l)) (offset-rest kept exact days (length b.stays) o h few);
  lengths = λ o l. subst (λ a. length a ≤ 1 + 16 * age_count days (length b.stays) o) (sym (at o l)) (offset-long kept exact days (length b.stays) o h);
}
  where
    at : (o : ℕ) → o < days → get_or lists o [] ≡ offset_list kept days (length b.stays) o
    at o l = ap (λ ls. get_or ls o []) e ∙ get_or-map-range_with_len (offset_list kept days (length b.stays)) 0 days o o [] l (omega arith)
