-- The census of a prefix is no greater than that of any list of options that it begins.
use Rattle.std.proofs.Common.{◌≡◌, ℕ, ◌+◌, ◌<◌, ◌≤◌, List, [], ◌∷◌, ◌++◌, length, map, sym, ◌∙◌, ap, subst, arith, append_assoc}
use Rattle.std.proofs.lemmas.List.{map-append}
use Rattle.mss_model.specs.declared.parts.TableParts.{TableParts}
use Rattle.mss_model.specs.Distribution.{convolution, convolution_all}
use Rattle.mss_model.specs.Limits.{IsTables}
use Rattle.mss_model.specs.Percentile.{percentile}
use Rattle.mss_model.specs.Occurrences.{slot_occurrences, occurrences_from}
use Rattle.mss_model.specs.Census.{those_present, census}
use Rattle.mss_model.proofs.ConvolutionSums.{positive-all, nonempty-all, convolution_all-append}
use Rattle.mss_model.proofs.ListsAsFunctions.{length-convolution}
use Rattle.mss_model.proofs.StochasticOrder.{below-part, percentile-le}
use Rattle.mss_census.specs.SlotSumsLaws.{all-positive}

occurrences-append : (t : TableParts) (w day slot : ℕ) (p r : List ℕ)
    → occurrences_from t w day slot (p ++ r) ≡ occurrences_from t w day slot p ++ occurrences_from t w day (slot + length p) r
occurrences-append t w day slot [] r = let e : slot ≡ slot + 0 = omega arith in ap (λ s. occurrences_from t w day s r) e
occurrences-append t w day slot (option ∷ p) r =
    let e : slot + 1 + length p ≡ slot + length (option ∷ p) = omega arith in
    ap (λ os. slot_occurrences t w day slot option ++ os) (occurrences-append t w day (slot + 1) p r)
    ∙ sym (append_assoc (slot_occurrences t w day slot option) (occurrences_from t w day (slot + 1) p) (occurrences_from t w day (slot + 1 + length p) r))
    ∙ ap (λ s. (slot_occurrences t w day slot option ++ occurrences_from t w day (slot + 1) p) ++ occurrences_from t w day s r) e

-- the percentile of a prefix is at most that of each list that it begins
pub census-grows : (t : TableParts) (w day : ℕ) (p r : List ℕ) (a b : ℕ) → IsTables t
    → percentile (census t w day p) a b ≤ percentile (census t w day (p ++ r)) a b
census-grows t w day p r a b good =
    let early : List (List ℕ) = map (those_present t) (occurrences_from t w day 0 p) in
    let late : List (List ℕ) = map (those_present t) (occurrences_from t w day (0 + length p) r) in
    let pe = all-positive t (occurrences_from t w day 0 p) good in
    let pl = all-positive t (occurrences_from t w day (0 + length p) r) good in
    let whole : census t w day (p ++ r) ≡ convolution (convolution_all early) (convolution_all late) =
    ap (λ os. convolution_all (map (those_present t) os)) (occurrences-append t w day 0 p r)
    ∙ ap convolution_all (map-append (those_present t) (occurrences_from t w day 0 p) (occurrences_from t w day (0 + length p) r))
    ∙ convolution_all-append early late pe pl in
    let some : 0 < length (convolution_all late) = nonempty-all late pl in
    let longer : length (convolution_all early) ≤ length (convolution (convolution_all early) (convolution_all late)) = omega (arith, length-convolution (convolution_all early) (convolution_all late), some) in
    subst (λ e. percentile (convolution_all early) a b ≤ percentile e a b) (sym whole)
    (percentile-le (convolution_all early) (convolution (convolution_all early) (convolution_all late)) a b longer
    (below-part (convolution_all early) (convolution_all late) (positive-all early pe) (positive-all late pl)))
