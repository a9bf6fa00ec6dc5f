use Rattle.std.proofs.Common.{◌≡◌, ◌≢◌, ◌++◌, ◌∷◌, [], map, length, None, true, ap, sym, ◌∙◌, rules, arith}
use Rattle.std.proofs.lemmas.Grind.{common_steps}
use Rattle.mss_model.specs.NameRule.{is_name_text}
use Rattle.mss_names.specs.NameNumbers.{NamesView, number_of}
use Rattle.mss_names.specs.TableView.{bytes_of}
use Rattle.mss_names.specs.MoreNamesLaws.{adds-new, names-insert_key, names-more}
use Rattle.mss_names.proofs.table.NameTable.add.Goals as goal
use Rattle.mss_names.proofs.table.NameTable.add.Goals.{In-Ok-insert_full}

-- the name is new, goes last, and there was room
record Pushed (c : goal.In-Ok-insert_full) : Type 0 where
  good : is_name_text c.args.name.now ≡ true
  new : number_of (map bytes_of c.self.inside.set.keys) c.args.name.now ≡ None
  names : map bytes_of c.insert_full.new.self.keys ≡ map bytes_of c.self.inside.set.keys ++ (c.args.name.now ∷ [])
  room : length (map bytes_of c.self.inside.set.keys) ≢ c.self.inside.limit

pushed : (c : goal.In-Ok-insert_full) → Pushed c
pushed c =
    let new : number_of (map bytes_of c.self.inside.set.keys) c.args.name.now ≡ None =
    ap (λ (v : NamesView). number_of v.names c.args.name.now) c.self.view_is ∙ sym c.in_default.ensures.number in
    let bytes : c.extend_from_slice.new.self.items ≡ c.args.name.now = grind (arith, common_steps) in
    record {
      good = search rules;
      new = new;
      names = ap (map bytes_of) c.in-Ok-insert_full.ensures.keys ∙ names-insert_key c.self.inside.set.keys c.extend_from_slice.new.self c.args.name.now bytes new;
      room = λ e. c.if-len-self.false (c.len.ensures.value ∙ ap (λ (v : NamesView). length v.names) (sym c.self.view_is) ∙ e);
    }

pub invariant_of-self-2 : goal.invariant_of-self-2
invariant_of-self-2 c =
    let p = pushed c in
    record {
      names = rw p.names (names-more c.self.inside.limit (map bytes_of c.self.inside.set.keys) c.args.name.now c.self.invariant.names p.good p.new p.room);
      numbered = c.self.invariant.numbered;
    }

pub returns-clause-ok : goal.returns-clause-ok
returns-clause-ok c =
    let p = pushed (goal.at.returns-clause-ok c).In-Ok-insert_full in (
      p.good,
      rw (sym c.in_default.ensures.number) (adds-new c.args.self.now c.self.inside.limit (map bytes_of c.self.inside.set.keys)
          (map bytes_of c.insert_full.new.self.keys) c.args.name.now c.len-2.result c.self.view_is c.self.invariant.names.count.1 p.room p.names c.len-2.ensures.value),
    )
