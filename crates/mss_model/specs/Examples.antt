-- Worked examples of the definitions, each proved by computing.
use Rattle.std.specs.Prelude.{◌≡◌, [], ◌∷◌, refl}
use Rattle.mss_model.specs.Presence.{presence}
use Rattle.mss_model.specs.Thinning.{thinning_weight, thinned_by}
use Rattle.mss_model.specs.BlockAtAge.{block_at_age}
use Rattle.mss_model.specs.Distribution.{convolution, convolution_all}
use Rattle.mss_model.specs.Percentile.{cumulative, percentile, moment}
use Rattle.mss_model.specs.Occurrences.{offset, offset_ages}

-- everyone is there at age 0
at_start : presence 1000000 (500000 ∷ 1000000 ∷ []) 0 ≡ 1
at_start = refl

-- half of them at age 1, and nobody at age 2
half_later : presence 1000000 (500000 ∷ 1000000 ∷ []) 1 ≡ 500000
half_later = refl

none_later : presence 1000000 (500000 ∷ 1000000 ∷ []) 2 ≡ 0
none_later = refl

-- one of three patients is there in 3 * 1 * 2 * 2 of 27 ways, where each is there with chance 1 / 3
one_of_three : thinning_weight 1 3 3 1 ≡ 12
one_of_three = refl

-- nobody is there twice
too_many : thinning_weight 1 3 2 3 ≡ 0
too_many = refl

-- two patients, each there with chance 1 / 4: nobody in 9 of 16 ways, one in 6, both in 1
two_quarters : thinned_by 1 4 (0 ∷ 0 ∷ 1 ∷ []) ≡ 9 ∷ 6 ∷ 1 ∷ []
two_quarters = refl

-- one or two patients with equal chance, each there with chance 1 / 2, in eighths
one_or_two : thinned_by 1 2 (0 ∷ 1 ∷ 1 ∷ []) ≡ 3 ∷ 4 ∷ 1 ∷ []
one_or_two = refl

-- two patients, who leave at age 0 with chance 1 / 2 and else at age 1
two_at_start : block_at_age (record { parts = 1000000; patients = 0 ∷ 0 ∷ 1000000 ∷ []; stays = 500000 ∷ 1000000 ∷ [] }) 0
    ≡ 0 ∷ 0 ∷ 1000000 ∷ []
two_at_start = refl

-- a quarter, a half and a quarter of 1000000 * 1000000 ^ 2
two_later : block_at_age (record { parts = 1000000; patients = 0 ∷ 0 ∷ 1000000 ∷ []; stays = 500000 ∷ 1000000 ∷ [] }) 1
    ≡ 250000000000000000 ∷ 500000000000000000 ∷ 250000000000000000 ∷ []
two_later = refl

-- two fair coins: no head in one of four ways, one in two, both in one
two_coins : convolution (1 ∷ 1 ∷ []) (1 ∷ 1 ∷ []) ≡ 1 ∷ 2 ∷ 1 ∷ []
two_coins = refl

three_coins : convolution_all ((1 ∷ 1 ∷ []) ∷ (1 ∷ 1 ∷ []) ∷ (1 ∷ 1 ∷ []) ∷ []) ≡ 1 ∷ 3 ∷ 3 ∷ 1 ∷ []
three_coins = refl

one_head_at_most : cumulative (1 ∷ 3 ∷ 3 ∷ 1 ∷ []) 1 ≡ 4
one_head_at_most = refl

-- half of the weight is reached at one head exactly, and a little more only at two
median : percentile (1 ∷ 3 ∷ 3 ∷ 1 ∷ []) 500000 1000000 ≡ 1
median = refl

above_median : percentile (1 ∷ 3 ∷ 3 ∷ 1 ∷ []) 500001 1000000 ≡ 2
above_median = refl

-- the mean is 12 / 8
mean_of_three : moment (1 ∷ 3 ∷ 3 ∷ 1 ∷ []) ≡ 12
mean_of_three = refl

-- in a week's cycle a slot of day 6 lies three days before day 2
three_days_before : offset 7 2 6 ≡ 3
three_days_before = refl

-- and a stay of nine ages meets the offset 1 twice, since the patients of the week before are still there
seen_twice : offset_ages 7 9 1 ≡ 1 ∷ 8 ∷ []
seen_twice = refl

seen_once : offset_ages 7 9 3 ≡ 3 ∷ []
seen_once = refl
