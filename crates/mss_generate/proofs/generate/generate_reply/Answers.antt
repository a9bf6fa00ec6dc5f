use Rattle.std.proofs.Common.{◌∙◌, refl, ap, subst}
use Rattle.mss_generate.specs.Generates.{SaysPlan}
use Rattle.mss_generate.specs.Puts.{table_puts}
use Rattle.mss_generate.proofs.generate.generate_reply.Goals as goal

pub returns-clause-defines : goal.returns-clause-defines
returns-clause-defines g c =
    let drawn = c.in_ok-files.ensures.files in
    let command = c.args.command.now in
    record {
      status = refl;
      puts = c.in_ok-puts.ensures ∙ ap table_puts drawn;
      says = subst (λ files. SaysPlan command.number command.size files c.in_ok-text.text) drawn c.in_ok-text.ensures;
    }
