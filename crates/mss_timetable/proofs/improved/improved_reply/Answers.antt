use Rattle.std.proofs.Common.{map, refl, sym, ap, subst}
use Rattle.mss_model.specs.PartsOf.{parts_of}
use Rattle.mss_command.specs.Lower.{EachPeaksAt}
use Rattle.mss_command.specs.Outcome.{put_of}
use Rattle.mss_timetable.specs.Improves.{IsBetter, PutsImproved}
use Rattle.mss_timetable.specs.declared.summary.Summary.{Summary}
use Rattle.mss_timetable.proofs.Better.{better}
use Rattle.mss_timetable.proofs.improved.improved_reply.Goals as goal

pub returns-clause-improves : goal.returns-clause-improves
returns-clause-improves g c =
    let t = parts_of c.args.tables.now in
    let i = c.in_ok-improved.improved in
    let e = c.in_ok-improved.ensures in
    let told = c.summary_of-summary.ensures in
    record {
      cycle = i.cycle;
      summary = c.summary_of-summary.result;
      better = subst (λ (s : Summary). IsBetter t c.args.start.now i.cycle s) (sym told)
          (better t c.args.start.now c.args.effort i c.in_ok-lower.lower.number e.legal e.encloses e.start_encloses e.no_worse e.accepted);
      tried = ap (λ (s : Summary). s.tries) told;
      lower = subst (λ (s : Summary). EachPeaksAt t s.lower) (sym told) c.in_ok-lower.ensures.each;
      puts = subst (λ (s : Summary). PutsImproved t i.cycle s.lower (map put_of c.in_ok-puts.puts.items)) (sym told) c.in_ok-puts.ensures;
      prints = c.in_ok-text.ensures;
      status = refl;
    }
