use Rattle.std.proofs.Common.{◌≡◌, ℕ, ◌+◌, List, ◌++◌, length, map, get_or, refl, sym, ap, subst, ◌∙◌, arith}
use Rattle.std.specs.List.{filter, range_with_len}
use Rattle.mss_model.specs.Occurrences.{offset}
use Rattle.mss_model.specs.PartsOf.{parts_of}
use Rattle.mss_model.specs.TableWords.{block_of}
use Rattle.mss_enclose.specs.Kept.{raised}
use Rattle.mss_floor.specs.FloorLists.{is_open_day, steady_list}
use Rattle.mss_floor.specs.LowestSums.{AreFull, AreSums, day_choice}
use Rattle.mss_floor.proofs.BlockCounts.{all-same}
use Rattle.mss_floor.specs.ForcedFloorsLaws.{full-kept, steady-full}
use Rattle.mss_floor.proofs.LowestLists.{choices-more}
use Rattle.mss_floor.proofs.lowest.lowest_sums.Goals as goal

pub loop-place-init : goal.loop-place-init
loop-place-init c = (
  record {
    long = refl;
    here = λ x l. absurd (omega (arith, l));
    none = λ z x. ap (λ s. get_or s x 0) (c.fill.ensures.after (λ y h. h)) ∙ all-same (length c.args.sums.now) x 0;
  },
  c.fill.ensures.len ∙ c.requires.room,
  omega arith,
)

pub loop-place-preserved : goal.loop-place-preserved
loop-place-preserved c =
    let t = parts_of c.args.tables.now in
    let p = is_open_day t c.args.prefix.now c.args.j in
    let f : ℕ → List ℕ = λ q. raised (steady_list t.days (block_of t c.args.j) (offset t.days c.args.day q)) in
    let n = c.loop-place.place in
    let full : AreFull (map f (filter p (range_with_len 1 n))) = full-kept f p (range_with_len 1 n) (λ q. steady-full t c.args.j (offset t.days c.args.day q) c.args.tables.now.good) in
    let mark : c.is_open.result ≡ p (n + 1) = c.is_open.ensures in (
      subst (λ l. AreSums l c.take_day-len.new.sums c.take_day-len.result)
          (ap (λ b. map f (filter p (range_with_len 1 n)) ++ day_choice t c.args.j c.args.day (n + 1) b) mark ∙ sym (choices-more t c.args.j c.args.day n p))
          (c.take_day-len.ensures.sums (map f (filter p (range_with_len 1 n))) full c.loop-place.invariant.0),
      c.take_day-len.ensures.room,
      c.take_day-len.ensures.few,
    )
