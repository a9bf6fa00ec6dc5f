-- The kept list of each age of a block stands for the block at that age.
use Rattle.std.proofs.Common.{◌≡◌, ℕ, zero, suc, ◌+◌, ◌*◌, ◌-◌, ◌^◌, ◌<◌, ◌≤◌, List, [], length, map, sum, get_or, sym, ap, subst, ◌∙◌, arith, inl, inr, mul-pos, add-one}
use Rattle.std.specs.List.{range_with_len}
use Rattle.std.proofs.lemmas.Bool.{cases_lt}
use Rattle.std.proofs.lemmas.List.{get_or_past}
use Rattle.std.proofs.lemmas.List.FromFn.{length-map-range_with_len, get_or-map-range_with_len}
use Rattle.std.proofs.Math.Nat.{pow-suc, pow-zero, mul-le-mul}
use Rattle.mss_model.specs.Presence.{presence}
use Rattle.mss_model.specs.Thinning.{thinned_by}
use Rattle.mss_model.specs.BlockAtAge.{BlockView, IsBlock, block_at_age}
use Rattle.mss_model.specs.Movements.{discharged_at_age}
use Rattle.mss_model.proofs.ChanceParts.{parts-some}
use Rattle.mss_model.proofs.ThinnedLists.{length-thinned_by}
use Rattle.mss_enclose.specs.Unit.{unit}
use Rattle.mss_enclose.specs.Kept.{rest_of, StandsFor}
use Rattle.mss_thin.specs.BlockLists.{kept_at_age, kept_departures, StandsByAge}
use Rattle.mss_thin.specs.KeptAgesLaws.{Follows, kept_follows, thinned_follows, total_is, presence_within}

power-pos : (d n : ℕ) → 0 < d → 0 < d ^ n
power-pos d zero h = rw pow-zero (omega arith)
power-pos d (suc n) h = rw (pow-suc d n) (mul-pos (power-pos d n h) h)

follows : (b : BlockView) (n : ℕ) → IsBlock b →
    Follows b.parts b.patients (presence b.parts b.stays n) (b.parts ^ n) (17 + 169 * n) (kept_at_age b n)
follows b n h = kept_follows b n (parts-some b.parts h.parts_good) h.patients_good.some h.patients_good.few h.patients_good.whole

pub age-length : (b : BlockView) (n : ℕ) → IsBlock b → length (kept_at_age b n) ≡ length b.patients
age-length b n h = (follows b n h).same_length

pub age-fits : (b : BlockView) (n : ℕ) → IsBlock b → sum (kept_at_age b n) ≤ unit
age-fits b n h = (follows b n h).within

-- a list that follows the patients stands for them
follow-stands : (b : BlockView) (p d rest : ℕ) (kept : List ℕ) → IsBlock b → p ≤ d → 0 < d → Follows b.parts b.patients p d rest kept
    → StandsFor kept (thinned_by p d b.patients)
follow-stands b p d rest kept h small pos f =
    let e : length b.patients ≡ suc (length b.patients - 1) = omega (arith, h.patients_good.some) in
    record {
      same_length = f.same_length ∙ sym (length-thinned_by p d b.patients);
      positive = rw (total_is p d (length b.patients - 1) b.patients small e)
          (mul-pos (subst (λ m. 0 < m) (sym h.patients_good.whole) (parts-some b.parts h.parts_good)) (power-pos d (length b.patients - 1) pos));
      fits = f.within;
      below = λ x. elim (cases_lt x (length b.patients)) [
        | inl lt ↦ f.below x lt
        | inr ge ↦ rw (get_or_past kept x 0 (omega (arith, f.same_length))) (omega arith)
      ];
    }

pub age-stands : (b : BlockView) (n : ℕ) → IsBlock b → StandsFor (kept_at_age b n) (block_at_age b n)
age-stands b n h =
    follow-stands b (presence b.parts b.stays n) (b.parts ^ n) (17 + 169 * n) (kept_at_age b n) h (presence_within b.parts b.stays n)
    (power-pos b.parts n (parts-some b.parts h.parts_good)) (follows b n h)

pub age-lacks : (b : BlockView) (n : ℕ) → IsBlock b → rest_of (kept_at_age b n) ≤ 17 + 169 * n
age-lacks b n h = let f = follows b n h in omega (arith, f.nearly)

pub age-rest : (b : BlockView) (n : ℕ) → IsBlock b → n < 60 → rest_of (kept_at_age b n) ≤ 10157
age-rest b n h l = omega (arith, age-lacks b n h, l)

pub age-long : (b : BlockView) (n : ℕ) → IsBlock b → length (kept_at_age b n) - 1 ≤ 16
age-long b n h = omega (arith, age-length b n h, h.patients_good.few)

-- ---- those who are discharged

chance-within : (b : BlockView) (n : ℕ) → IsBlock b → get_or b.stays n 0 ≤ b.parts
chance-within b n h = elim (cases_lt n (length b.stays)) [
  | inl lt ↦ h.stays_good.within n 0 lt
  | inr ge ↦ rw (get_or_past b.stays n 0 ge) (omega arith)
]

leaving : (b : BlockView) (n : ℕ) → IsBlock b →
    Follows b.parts b.patients (presence b.parts b.stays n * get_or b.stays n 0) (b.parts ^ n * b.parts) (17 + 169 * n + 169) (kept_departures b n)
leaving b n h =
    thinned_follows b.parts (presence b.parts b.stays n) (b.parts ^ n) (get_or b.stays n 0) (17 + 169 * n) b.patients (kept_at_age b n)
    (parts-some b.parts h.parts_good) (presence_within b.parts b.stays n) (chance-within b n h) h.patients_good.some h.patients_good.few (follows b n h)

pub departures-stand : (b : BlockView) (n : ℕ) → IsBlock b → StandsFor (kept_departures b n) (discharged_at_age b n)
departures-stand b n h =
    let power : b.parts ^ n * b.parts ≡ b.parts ^ (n + 1) = sym (ap (λ k. b.parts ^ k) (add-one n) ∙ pow-suc b.parts n) in
    subst (λ d. StandsFor (kept_departures b n) (thinned_by (presence b.parts b.stays n * get_or b.stays n 0) d b.patients)) power
    (follow-stands b (presence b.parts b.stays n * get_or b.stays n 0) (b.parts ^ n * b.parts) (17 + 169 * n + 169) (kept_departures b n) h
    (mul-le-mul (presence_within b.parts b.stays n) (chance-within b n h)) (mul-pos (power-pos b.parts n (parts-some b.parts h.parts_good)) (parts-some b.parts h.parts_good)) (leaving b n h))

pub departures-kept : (b : BlockView) (n : ℕ) (kept : List ℕ) → IsBlock b → kept ≡ kept_departures b n →
    (1 ≤ length kept) × (length kept ≤ 17) × (sum kept ≤ unit)
departures-kept b n kept h e =
    let f = leaving b n h in
    let long : length kept ≡ length b.patients = ap length e ∙ f.same_length in
    (omega (arith, long, h.patients_good.some), omega (arith, long, h.patients_good.few), subst (λ k. sum k ≤ unit) (sym e) f.within)

-- ---- what is so of each age, of one kind of list or the other

-- The list of each age stands for the distribution of its age, lacks little and isn't too long.
pub record AgesStand (kept exact : ℕ → List ℕ) : Type 0 where
  pub stands : (n : ℕ) → StandsFor (kept n) (exact n)
  pub rests : (n : ℕ) → n < 60 → rest_of (kept n) ≤ 10157
  pub longs : (n : ℕ) → length (kept n) ≤ 17

pub present-ages : (b : BlockView) → IsBlock b → AgesStand (kept_at_age b) (block_at_age b)
present-ages b h = record {
  stands = λ n. age-stands b n h;
  rests = λ n l. age-rest b n h l;
  longs = λ n. omega (arith, age-length b n h, h.patients_good.few);
}

pub leaving-ages : (b : BlockView) → IsBlock b → AgesStand (kept_departures b) (discharged_at_age b)
leaving-ages b h = record {
  stands = λ n. departures-stand b n h;
  rests = λ n l. let f = leaving b n h in omega (arith, f.nearly, l);
  longs = λ n. let f = leaving b n h in omega (arith, f.same_length, h.patients_good.few);
}

-- the lists of all ages of a block stand for what is so of each
pub all-stand-by-age : (b : BlockView) (kept exact : ℕ → List ℕ) (start : ℕ) (lists : List (List ℕ)) → IsBlock b → start ≤ 186
    → ((n : ℕ) → StandsFor (kept n) (exact n)) → ((n : ℕ) → length (kept n) ≡ length b.patients) → ((n : ℕ) → rest_of (kept n) ≤ start + 169 * n)
    → lists ≡ map kept (range_with_len 0 (length b.stays)) → StandsByAge b exact start lists
all-stand-by-age b kept exact start lists h little stands long lacks e =
    let len : length lists ≡ length b.stays = ap length e ∙ length-map-range_with_len kept 0 (length b.stays) in
    let at : (n : ℕ) → n < length lists → get_or lists n [] ≡ kept n
    = λ n l. ap (λ ls. get_or ls n []) e ∙ get_or-map-range_with_len kept 0 (length b.stays) n n [] (omega arith) (omega arith) in
    record {
      ages = len;
      lengths = λ n l. ap length (at n l) ∙ long n;
      stands = λ n l. subst (λ a. StandsFor a (exact n)) (sym (at n l)) (stands n);
      rests = λ n l. subst (λ a. rest_of a ≤ start + 169 * n) (sym (at n l)) (lacks n);
      small_rests = λ n l.
          let small : rest_of (kept n) ≤ 2 ^ 30 = omega (arith, lacks n, len, l, h.stays_good.few) in
          subst (λ a. rest_of a ≤ 2 ^ 30) (sym (at n l)) small;
    }

pub present-by-age : (b : BlockView) (lists : List (List ℕ)) → IsBlock b → lists ≡ map (kept_at_age b) (range_with_len 0 (length b.stays))
    → StandsByAge b (block_at_age b) 17 lists
present-by-age b lists h e =
    all-stand-by-age b (kept_at_age b) (block_at_age b) 17 lists h (omega arith) (λ n. age-stands b n h) (λ n. age-length b n h) (λ n. age-lacks b n h) e

pub leaving-by-age : (b : BlockView) (lists : List (List ℕ)) → IsBlock b → lists ≡ map (kept_departures b) (range_with_len 0 (length b.stays))
    → StandsByAge b (discharged_at_age b) 186 lists
leaving-by-age b lists h e =
    all-stand-by-age b (kept_departures b) (discharged_at_age b) 186 lists h (omega arith) (λ n. departures-stand b n h)
    (λ n. (leaving b n h).same_length) (λ n. let f = leaving b n h in omega (arith, f.nearly)) e
