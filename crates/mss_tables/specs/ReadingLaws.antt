-- The reading of one file, with its number, and what its records say.
use Rattle.std.proofs.Common.{◌≡◌, ◌∷◌, ◌++◌, ℕ, List, [], Option, None, Ok, refl}
use Rattle.std.proofs.lemmas.List.Concat.{flat_map-append}
use Rattle.mss_model.specs.declared.faults.Kind.{Kind}
use Rattle.mss_rows.specs.FirstFault.{RefusesFile, Test, body_of, file_fault}
use Rattle.mss_rows.specs.declared.refusal.FileRefusal.{FileRefusal}
use Rattle.mss_rows.specs.declared.refusal.FileRefusal.TheVariants as told
use Rattle.mss_tables.specs.Readings.{Fails, Saying, refusal_in, rows_at, said_by, said_in, saying_fault}

pub rows-refused : (file : ℕ) (header : List (List ℕ)) (test : Test) (all : List (List (List ℕ))) (refusal : FileRefusal)
    → RefusesFile (file_fault header test all) refusal → Fails (refusal_in file refusal) (rows_at file header test all)
unfolding rows_at
rows-refused file header test all (told.Fault fault) h = rw h refl
rows-refused file header test all told.NoMemory h = tt

pub rows-read : (file : ℕ) (header : List (List ℕ)) (test : Test) (all : List (List (List ℕ))) → file_fault header test all ≡ None → rows_at file header test all ≡ Ok (body_of all)
unfolding rows_at
rows-read file header test all e = rw e refl

-- one record more: its fault, and what is said with it
pub saying-fault : {T : Type 0} (read : Saying T) (test : List T → T → Option Kind) (before : List (List (List ℕ))) (row : List (List ℕ)) (new : T) → read row ≡ Ok new
    → saying_fault read test before row ≡ test (said_by read before) new
saying-fault read test before row new reads = rw reads refl

pub said-more : {T : Type 0} (read : Saying T) (before : List (List (List ℕ))) (row : List (List ℕ)) (new : T) → read row ≡ Ok new
    → said_by read (before ++ (row ∷ [])) ≡ said_by read before ++ (new ∷ [])
said-more read before row new reads = rw (flat_map-append (λ r. said_in (read r)) before (row ∷ []), reads) refl
