use Rattle.std.proofs.Common.{Some, ap, sym, ◌∙◌, option_map}
use Rattle.std.specs.FinMap as map
use Rattle.mss_desk.proofs.Shelved.{get_shelved}
use Rattle.mss_desk.proofs.shelf.Shelf.get.Goals as goal

pub returns-in-Some : goal.returns-in-Some
returns-in-Some c =
    ap Some c.as_slice.ensures.value
    ∙ ap (option_map (λ v. v.items)) c.in-Some.ensures.value
    ∙ sym (get_shelved c.self.inside.files.entries c.args.name.now)
    ∙ ap (λ m. map.get m c.args.name.now) c.self.view_is

pub returns-in-None : goal.returns-in-None
returns-in-None c =
    ap (option_map (λ v. v.items)) c.in-None.ensures.value
    ∙ sym (get_shelved c.self.inside.files.entries c.args.name.now)
    ∙ ap (λ m. map.get m c.args.name.now) c.self.view_is
