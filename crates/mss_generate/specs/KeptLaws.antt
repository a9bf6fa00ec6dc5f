-- What `generate` puts and says keeps its promise.
use Rattle.std.proofs.Common.{◌≡◌, ℕ, List, [], ◌++◌, map, length, get_or, Option, Some, None, refl, sym, ap, ◌∙◌}
use Rattle.std.proofs.lemmas.List.FromFn.{fill_by_all}
use Rattle.mss_model.specs.Files.{table_names}
use Rattle.mss_model.specs.Legality.{broken_rule}
use Rattle.mss_model.specs.declared.parts.TableParts.{TableParts}
use Rattle.mss_desk.specs.Desk.{Content}
use Rattle.mss_search.specs.Promises.{IsIncumbent}
use Rattle.mss_search.specs.Searching.{upper_of}
use Rattle.mss_search.specs.declared.planner.Planned.{Planned}
use Rattle.mss_check.specs.Validity.{lean_task}
use Rattle.mss_plan.specs.Plan.{IsPlan, summary_of}
use Rattle.mss_command.specs.Outcome.{Outcome, Did}
use Rattle.mss_gen.specs.Generated.{files_of, generated, tables_rows}
use Rattle.mss_gen.specs.declared.size.Size.{Size}
use Rattle.mss_generate.specs.Generates.{Generates}
use Rattle.mss_generate.specs.Kept.{AreNumbersOf, Kept}
use Rattle.mss_command.specs.PutFacts.{AreDistinct, distinct_tested, other_after, stored_after}
use Rattle.mss_generate.specs.Puts.{table_puts}

-- the files are put under the names of the tables
names-put : (files : List (List ℕ)) → map (λ put. put.0) (table_puts files) ≡ table_names
names-put files = refl

-- each holds its bytes
bytes-put : (files : List (List ℕ)) → length files ≡ 10 → map (λ put. Some put.1) (table_puts files) ≡ map (λ file. Some file) files
bytes-put files ten = sym (ap (map (λ file. Some file)) (fill_by_all (λ k. get_or files k []) files 10 [] ten (λ k below. refl)))

ten-files : (number : ℕ) (size : Size) → length (generated number size) ≡ 10
unfolding files_of tables_rows
ten-files number size = refl

distinct : AreDistinct table_names
distinct = distinct_tested table_names refl

-- where there is an upper number there is a cycle
cycle-of : (tables : TableParts) (p : Planned) (best : Option (List ℕ)) (upper : Option ℕ) (n : ℕ)
    → IsIncumbent (lean_task 2 broken_rule tables) (upper_of tables) p.certificate.tree best upper → upper ≡ Some n → (cycle : List ℕ) × (best ≡ Some cycle)
cycle-of tables p None None n known e = absurd (cc)
cycle-of tables p None (Some m) n known e = absurd known
cycle-of tables p (Some cycle) upper n known e = (cycle, refl)

numbers-of : (tables : TableParts) (p : Planned) → IsPlan broken_rule tables p → AreNumbersOf tables (summary_of p)
numbers-of tables p is = record {
  upper = λ n e. let best = cycle-of tables p p.best p.upper n is.search.best e in (best.0, is.legal best.0 best.1, is.peaks best.0 n best.1 e);
  lower = is.lower;
  closed = is.closes;
}

pub generated_kept : (number : ℕ) (size : Size) (o : Outcome) (c d : Content) → Generates number size o → Did o c d → Kept number size c d
generated_kept number size o c d defined did =
    let names : map (λ put. put.0) o.puts ≡ table_names = ap (map (λ put. put.0)) defined.puts ∙ names-put (generated number size) in
    let bytes : map (λ put. Some put.1) o.puts ≡ map (λ file. Some file) (generated number size) =
    ap (map (λ put. Some put.1)) defined.puts ∙ bytes-put (generated number size) (ten-files number size) in
    record {
      tables = defined.says.tables;
      stored = record {
        bytes = generated number size;
        stored = stored_after o.puts table_names c.files d.files names did.files distinct ∙ bytes;
        within = defined.says.within;
        means = defined.says.means;
      };
      drawn = refl;
      others = λ name other. other_after o.puts table_names c.files d.files names did.files name other;
      summary = summary_of defined.says.plan;
      said = did.said ∙ ap (λ text. c.said ++ text) defined.says.exact;
      numbers = numbers-of defined.says.tables defined.says.plan defined.says.is;
    }
