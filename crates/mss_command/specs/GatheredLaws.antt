-- Files that are gathered are stored, each within its limit, and the other way round; so the tables that the files of a
-- desk mean are stored there.
use Rattle.std.proofs.Common.{◌≡◌, ℕ, ◌+◌, ◌≤◌, Bool, true, false, cond, ltb, List, [], ◌∷◌, length, map, Option, Some, None, Ok, refl, sym, ap, subst, ◌∙◌}
use Rattle.std.specs.FinMap.{get}
use Rattle.std.specs.List.{AllByRecursion}
use Rattle.std.proofs.lemmas.Bool.{le-ltb, ltb-false}
use Rattle.std.proofs.lemmas.List.Elements.{All-cons, All-head, All-nil, All-tail}
use Rattle.std.proofs.lemmas.Option.{same_Some}
use Rattle.mss_model.specs.Files.{table_names}
use Rattle.mss_model.specs.declared.parts.TableParts.{TableParts}
use Rattle.mss_desk.specs.Desk.{Files}
use Rattle.mss_tables.specs.TablesMeaning.{AreWithin, tables_at}
use Rattle.mss_command.specs.Fetched.{Fetched, Missing, TooLong, Bytes, within, fetched, file_limit}
use Rattle.mss_command.specs.Gathered.{Gathered, AllRead, Lacking, Long, and_then, gathered, gathered_from}
use Rattle.mss_command.specs.Outcome.{put_all}
use Rattle.mss_command.specs.PutFacts.{are_other, each_other, others_after}
use Rattle.mss_command.specs.Tables.{StoresTables, tables_gathered, tables_on}

-- ---- one file

-- a file is within its limit
abbrev IsShort : List ℕ → Type 0
IsShort bytes = length bytes ≤ file_limit

-- a file that was read is stored, and within its limit
read_short : (limit : ℕ) (stored bytes : List ℕ) (long : Bool) → ltb limit (length stored) ≡ long → cond long TooLong (Bytes stored) ≡ Bytes bytes
    → (stored ≡ bytes) × (length bytes ≤ limit)
read_short limit stored bytes true test e = absurd (cc e)
read_short limit stored bytes false test e =
    let same : stored ≡ bytes = cc e in (same, subst (λ (b : List ℕ). length b ≤ limit) same (ltb-false limit (length stored) test))

read_stored : (limit : ℕ) (stored : Option (List ℕ)) (bytes : List ℕ) → within limit stored ≡ Bytes bytes → (stored ≡ Some bytes) × (length bytes ≤ limit)
read_stored limit None bytes e = absurd (cc e)
read_stored limit (Some stored) bytes e = let p = read_short limit stored bytes (ltb limit (length stored)) refl e in (ap Some p.0, p.1)

-- and one that is stored within its limit is read
pub stored_read : (limit : ℕ) (stored : Option (List ℕ)) (bytes : List ℕ) → stored ≡ Some bytes → length bytes ≤ limit → within limit stored ≡ Bytes bytes
stored_read limit stored bytes is short = ap (within limit) is ∙ rw (le-ltb limit (length bytes) short) refl

-- ---- all files

-- a file and those after it were read
read_first : (first : ℕ) (f : Fetched) (later : Gathered) (tables : List (List ℕ)) → and_then first f later ≡ AllRead tables
    → (bytes : List ℕ) × (rest : List (List ℕ)) × (f ≡ Bytes bytes) × (later ≡ AllRead rest) × (tables ≡ bytes ∷ rest)
read_first first (Bytes b) (AllRead bs) tables e = (b, bs, refl, refl, (cc))
read_first first (Bytes b) Lacking tables e = absurd (cc)
read_first first (Bytes b) (Long n) tables e = absurd (cc)
read_first first Missing later tables e = absurd (cc)
read_first first TooLong later tables e = absurd (cc)

all_stored : (files : Files) (first : ℕ) (names tables : List (List ℕ)) → gathered_from first files names ≡ AllRead tables
    → (map (λ name. get files name) names ≡ map (λ file. Some file) tables) × AreWithin tables
all_stored files first [] tables e = let none : [] ≡ tables = cc in (ap (map (λ file. Some file)) none, subst AreWithin none (All-nil IsShort))
all_stored files first (n ∷ ns) tables e =
    let p = read_first first (fetched file_limit files n) (gathered_from (first + 1) files ns) tables e in
    let here = read_stored file_limit (get files n) p.0 p.2 in
    let later = all_stored files (first + 1) ns p.1 p.3 in (
      ap (λ x. x ∷ map (λ name. get files name) ns) here.0 ∙ ap (λ xs. Some p.0 ∷ xs) later.0 ∙ ap (map (λ file. Some file)) (sym p.4),
      subst AreWithin (sym p.4) (All-cons IsShort p.0 p.1 here.1 later.1),
    )

all_read : (files : Files) (first : ℕ) (names tables : List (List ℕ)) → map (λ name. get files name) names ≡ map (λ file. Some file) tables → AreWithin tables
    → gathered_from first files names ≡ AllRead tables
all_read files first [] [] same short = refl
all_read files first [] (b ∷ bs) same short = absurd (cc same)
all_read files first (n ∷ ns) [] same short = absurd (cc same)
all_read files first (n ∷ ns) (b ∷ bs) same short =
    let here : get files n ≡ Some b = cc same in
    let later : map (λ name. get files name) ns ≡ map (λ file. Some file) bs = cc same in
    ap (λ f. and_then first f (gathered_from (first + 1) files ns)) (stored_read file_limit (get files n) b here (All-head IsShort b bs short))
    ∙ ap (and_then first (Bytes b)) (all_read files (first + 1) ns bs later (All-tail IsShort b bs short))

tables_stored : (files : Files) (tables : List (List ℕ)) → gathered files ≡ AllRead tables
    → (map (λ name. get files name) table_names ≡ map (λ file. Some file) tables) × AreWithin tables
unfolding gathered
tables_stored files tables e = all_stored files 0 table_names tables e

tables_read : (files : Files) (tables : List (List ℕ)) → map (λ name. get files name) table_names ≡ map (λ file. Some file) tables → AreWithin tables
    → gathered files ≡ AllRead tables
unfolding gathered
tables_read files tables same short = all_read files 0 table_names tables same short

-- ---- the tables on a desk

module _ (files : Files) (tables : TableParts) where
  stored_as : (g : Gathered) → gathered files ≡ g → tables_gathered g ≡ Some (Ok tables) → StoresTables files tables
  stored_as (AllRead bytes) e on =
      let p = tables_stored files bytes e in record { bytes = bytes; stored = p.0; within = p.1; means = same_Some (tables_at bytes) (Ok tables) on }
  stored_as Lacking e on = absurd (cc on)
  stored_as (Long file) e on = absurd (cc on)

  -- the tables that the files of a desk mean are stored there
  pub on_stored : tables_on files ≡ Some (Ok tables) → StoresTables files tables
  on_stored on = stored_as (gathered files) refl on

  -- the files of stored tables are gathered, and mean them
  pub stored_gathered : (s : StoresTables files tables) → gathered files ≡ AllRead s.bytes
  stored_gathered s = tables_read files s.bytes s.stored s.within

  pub stored_on : StoresTables files tables → tables_on files ≡ Some (Ok tables)
  stored_on s = ap tables_gathered (stored_gathered s) ∙ ap Some s.means

-- where each file of these names is as before, the same is stored
same_stored : (before after : Files) (names : List (List ℕ)) → AllByRecursion (λ name. get after name ≡ get before name) names
    → map (λ name. get after name) names ≡ map (λ name. get before name) names
same_stored before after [] same = refl
same_stored before after (name ∷ names) same =
    ap (λ x. x ∷ map (λ name. get after name) names) same.0 ∙ ap (λ xs. get before name ∷ xs) (same_stored before after names same.1)

-- tables stay stored where files of other names are put
pub still_stored : (puts : List (List ℕ × List ℕ)) (before after : Files) (tables : TableParts) → are_other table_names (map (λ put. put.0) puts) ≡ true
    → after ≡ put_all puts before → StoresTables before tables → StoresTables after tables
still_stored puts before after tables distinct put s =
    let names = map (λ put. put.0) puts in
    let same = others_after puts names before after refl put table_names (each_other table_names names distinct) in
    record { bytes = s.bytes; stored = same_stored before after table_names same ∙ s.stored; within = s.within; means = s.means }
