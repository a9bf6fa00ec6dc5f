-- Rows of weights that grow at their end.
use Rattle.std.proofs.Common.{◌≡◌, ℕ, zero, suc, ◌+◌, ◌-◌, ◌^◌, ◌<◌, ◌≤◌, List, [], ◌∷◌, ◌++◌, length, get_or, refl, sym, ap, subst, arith, inl, inr, map, take, take_all, ◌∙◌}
use Rattle.std.proofs.lemmas.Bool.{cases_lt}
use Rattle.std.specs.List.{range_with_len}
use Rattle.std.proofs.lemmas.List.FromFn.{map-range_with_len_more}
use Rattle.mss_model.specs.BlockAtAge.{no_block}
use Rattle.std.proofs.lemmas.List.{length-map, get_or-map, take_more, length-append, get_or_append_left}
use lib.ListN.{get_or-eq_default}
use Rattle.mss_model.specs.declared.parts.TableParts.{TableParts}
use Rattle.mss_model.specs.BlockAtAge.{BlockView}
use Rattle.mss_model.specs.TableWords.{block_of, specialty_count}
use Rattle.mss_weights.specs.Steady.{steady_sum}
use Rattle.mss_weights.specs.Light.{Weighs}
use Rattle.mss_weights.specs.Powers.{base, base_parts}
use Rattle.mss_weights.specs.Rows.{IsRow, AreRows, weight_in}
use Rattle.mss_weights.proofs.WardLoads.{AllWeigh}

at-end : {A : Type 0} (xs : List A) (x d : A) (n : ℕ) → length xs ≡ n → get_or (xs ++ x ∷ []) n d ≡ x
at-end [] x d zero h = refl
at-end [] x d (suc n) h = absurd (omega (arith, h))
at-end (y ∷ ys) x d zero h = absurd (omega (arith, h))
at-end (y ∷ ys) x d (suc n) h = at-end ys x d n (omega (arith, h))

pub no-row : (power days : ℕ) (b : BlockView) → IsRow power days b 0 []
no-row power days b = record { long = refl; weighs = λ o l. absurd (omega arith); few = λ o. omega arith }

pub row-more : (power days count w : ℕ) (b : BlockView) (row : List ℕ) → IsRow power days b count row
    → Weighs base base_parts (base ^ power) (base_parts ^ power) (steady_sum days b count) w → w ≤ 131072
    → IsRow power days b (count + 1) (row ++ w ∷ [])
row-more power days count w b row h weighs few = record {
  long = omega (arith, length-append row (w ∷ []), h.long);
  weighs = λ o l. elim (cases_lt o count) [
    | inl lt ↦ subst (Weighs base base_parts (base ^ power) (base_parts ^ power) (steady_sum days b o)) (sym (get_or_append_left row (w ∷ []) 0 o (omega (arith, h.long)))) (h.weighs o lt)
    | inr ge ↦
        let e : count ≡ o = omega arith in
        subst (λ k. Weighs base base_parts (base ^ power) (base_parts ^ power) (steady_sum days b k) (get_or (row ++ w ∷ []) k 0)) e
        (subst (Weighs base base_parts (base ^ power) (base_parts ^ power) (steady_sum days b count)) (sym (at-end row w 0 count h.long)) weighs)
  ];
  few = λ o. elim (cases_lt o count) [
    | inl lt ↦ omega (arith, get_or_append_left row (w ∷ []) 0 o (omega (arith, h.long)), h.few o)
    | inr ge ↦ elim (cases_lt count o) [
      | inl gt ↦ omega (arith, get_or-eq_default (row ++ w ∷ []) 0 {n = o} (omega (arith, length-append row (w ∷ []), h.long)))
      | inr le ↦ let e : count ≡ o = omega arith in omega (arith, ap (λ k. get_or (row ++ w ∷ []) k 0) e, at-end row w 0 count h.long)
    ]
  ];
}

pub no-rows : (power : ℕ) (t : TableParts) → AreRows power t 0 []
no-rows power t = record { long = refl; each = λ j l. absurd (omega arith) }

pub rows-more : (power count : ℕ) (t : TableParts) (rows : List (List ℕ)) (row : List ℕ) → AreRows power t count rows
    → IsRow power t.days (block_of t (count + 1)) t.days row → AreRows power t (count + 1) (rows ++ row ∷ [])
rows-more power count t rows row h r = record {
  long = omega (arith, length-append rows (row ∷ []), h.long);
  each = λ j l. elim (cases_lt j count) [
    | inl lt ↦ subst (IsRow power t.days (block_of t (j + 1)) t.days) (sym (get_or_append_left rows (row ∷ []) [] j (omega (arith, h.long)))) (h.each j lt)
    | inr ge ↦
        let e : count ≡ j = omega arith in
        subst (λ k. IsRow power t.days (block_of t (k + 1)) t.days (get_or (rows ++ row ∷ []) k [])) e
        (subst (IsRow power t.days (block_of t (count + 1)) t.days) (sym (at-end rows row [] count h.long)) r)
  ];
}

-- the rows show what all blocks weigh
pub rows-weigh : (power : ℕ) (t : TableParts) (rows : List (List ℕ)) → AreRows power t (specialty_count t) rows
    → AllWeigh base base_parts (base ^ power) (base_parts ^ power) t (weight_in rows)
rows-weigh power t rows h = λ j o some known l.
    let e : j - 1 + 1 ≡ j = omega arith in
    subst (λ k. Weighs base base_parts (base ^ power) (base_parts ^ power) (steady_sum t.days (block_of t k) o) (weight_in rows j o)) e
    ((h.each (j - 1) (omega arith)).weighs o l)

pub weights-few : (power : ℕ) (t : TableParts) (rows : List (List ℕ)) (j o : ℕ) → AreRows power t (specialty_count t) rows → weight_in rows j o ≤ 131072
weights-few power t rows j o h = elim (cases_lt (j - 1) (specialty_count t)) [
  | inl lt ↦ (h.each (j - 1) lt).few o
  | inr ge ↦ rw (get_or-eq_default rows [] {n = j - 1} (omega (arith, h.long))) (omega arith)
]

-- a row that is there
pub rows_at : (power : ℕ) (t : TableParts) (rows : List (List ℕ)) (j : ℕ) → AreRows power t (specialty_count t) rows → 0 < j → j ≤ specialty_count t
    → length (get_or rows (j - 1) []) ≡ t.days
rows_at power t rows j h some known = (h.each (j - 1) (omega arith)).long

-- ---- the same as definitions

pub values-more : (f : ℕ → ℕ) (o w : ℕ) (row : List ℕ) → row ≡ map f (range_with_len 0 o) → w ≡ f o → row ++ w ∷ [] ≡ map f (range_with_len 0 (o + 1))
values-more f o w row e h = rw (e, h) (sym (map-range_with_len_more f 0 o o (omega arith)))

pub rows-taken : (g : BlockView → List ℕ) (blocks : List BlockView) (j : ℕ) → j < length blocks
    → take (j + 1) (map g blocks) ≡ take j (map g blocks) ++ g (get_or blocks j no_block) ∷ []
rows-taken g blocks j l =
    take_more (map g blocks) j [] (omega (arith, length-map blocks g, l)) ∙ ap (λ r. take j (map g blocks) ++ r ∷ []) (get_or-map g blocks j no_block [] l)

pub rows-whole : (g : BlockView → List ℕ) (blocks : List BlockView) (n : ℕ) → length blocks ≤ n → take n (map g blocks) ≡ map g blocks
rows-whole g blocks n l = take_all n (map g blocks) (omega (arith, length-map blocks g, l))
