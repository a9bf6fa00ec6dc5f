use Rattle.std.proofs.Common.{◌≡◌, ◌≤◌, ◌*◌, ◌-◌, ◌+◌, length, subst, sym, ap, ◌∙◌, arith}
use Rattle.std.proofs.Math.Nat.{mul-le-mul}
use Rattle.mss_model.specs.TableWords.{slot_count}
use Rattle.mss_census.specs.WardLists.{census_list}
use Rattle.mss_census.specs.WholeCensusLaws.{census-long}
use Rattle.mss_census.proofs.LongestLists.{list-short}
use Rattle.mss_census.proofs.ward_census.room_for.Goals as goal

pub returns-clause-enough : goal.returns-clause-enough
returns-clause-enough c joined len q t ward day options good same pos long =
    let m = c.longest.result in
    let slots : c.args.slots ≡ slot_count t = c.requires.slots ∙ ap (λ ls. ls.days * ls.rooms) same in
    let all : length (census_list joined c.args.lists.now ward day options) ≤ 15361 =
    subst (λ ls. length (census_list joined ls ward day options) ≤ 15361) (sym same) (census-long joined len q t ward day options good pos long) in
    let few : length (census_list joined c.args.lists.now ward day options) ≤ 1 + length options * (m - 1) =
    list-short joined len c.args.lists.now ward day m options c.longest.ensures.lists in
    let more : length options * (m - 1) ≤ c.args.slots * (m - 1) = mul-le-mul (omega (arith, slots, long)) (omega arith) in
    omega (arith, all, few, more, c.min.ensures)
