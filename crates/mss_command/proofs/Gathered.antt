-- The files of the tables, read in turn.
use Rattle.std.proofs.Common.{◌≡◌, ◌<◌, ◌≤◌, ℕ, zero, suc, ◌+◌, List, [], ◌∷◌, length, get_or, Option, Some, None, refl, sym, ap, subst, ◌∙◌, arith, ◌⊎◌, inl, inr}
use Rattle.mss_desk.specs.Desk.{Files, Content, IfTold, IsMissing, Rose}
use Rattle.mss_model.specs.Files.{file_name, table_names}
use Rattle.mss_command.specs.Fetched.{Fetched, Missing, TooLong, Bytes, within, fetched, file_limit}
use Rattle.mss_command.specs.Gathered.{AllRead, Lacking, Long, IsOneMissing, and_then, gathered, gathered_from}

-- the first few files were read, and these are their bytes
pub record AreRead (files : Files) (tables : List (List ℕ)) (count : ℕ) : Type 0 where
  pub each : (k : ℕ) → k < count → fetched file_limit files (get_or table_names k []) ≡ Bytes (get_or tables k [])

-- all files with these names were read
all_read : (files : Files) (first : ℕ) (names tables : List (List ℕ)) → length tables ≡ length names
    → ((k : ℕ) → k < length names → fetched file_limit files (get_or names k []) ≡ Bytes (get_or tables k []))
    → gathered_from first files names ≡ AllRead tables
all_read files first [] [] e h = refl
all_read files first [] (b ∷ bs) e h = absurd (omega arith)
all_read files first (n ∷ ns) [] e h = absurd (omega arith)
all_read files first (n ∷ ns) (b ∷ bs) e h =
    ap (λ f. and_then first f (gathered_from (first + 1) files ns)) (h 0 (omega arith))
    ∙ ap (and_then first (Bytes b)) (all_read files (first + 1) ns bs (omega arith) (λ k l. h (suc k) (omega arith)))

-- the file at a place isn't there, and those before it were read
first_lacking : (files : Files) (first : ℕ) (names : List (List ℕ)) (got : ℕ → List ℕ) (k : ℕ) → k < length names
    → ((j : ℕ) → j < k → fetched file_limit files (get_or names j []) ≡ Bytes (got j))
    → fetched file_limit files (get_or names k []) ≡ Missing → gathered_from first files names ≡ Lacking
first_lacking files first [] got k l h e = absurd (omega arith)
first_lacking files first (n ∷ ns) got zero l h e = ap (λ f. and_then first f (gathered_from (first + 1) files ns)) e
first_lacking files first (n ∷ ns) got (suc k) l h e =
    ap (λ f. and_then first f (gathered_from (first + 1) files ns)) (h 0 (omega arith))
    ∙ ap (and_then first (Bytes (got 0))) (first_lacking files (first + 1) ns (λ j. got (suc j)) k (omega arith) (λ j m. h (suc j) (omega arith)) e)

-- the file at a place is too long, and those before it were read
first_long : (files : Files) (first : ℕ) (names : List (List ℕ)) (got : ℕ → List ℕ) (k : ℕ) → k < length names
    → ((j : ℕ) → j < k → fetched file_limit files (get_or names j []) ≡ Bytes (got j))
    → fetched file_limit files (get_or names k []) ≡ TooLong → gathered_from first files names ≡ Long (first + k)
first_long files first [] got k l h e = absurd (omega arith)
first_long files first (n ∷ ns) got zero l h e =
    ap (λ f. and_then first f (gathered_from (first + 1) files ns)) e ∙ ap Long (let z : first ≡ first + 0 = omega arith in z)
first_long files first (n ∷ ns) got (suc k) l h e =
    ap (λ f. and_then first f (gathered_from (first + 1) files ns)) (h 0 (omega arith))
    ∙ ap (and_then first (Bytes (got 0))) (first_long files (first + 1) ns (λ j. got (suc j)) k (omega arith) (λ j m. h (suc j) (omega arith)) e)
    ∙ ap Long (let z : (first + 1) + k ≡ first + suc k = omega arith in z)

-- the same of what a desk tells
pub told_all : (t : Option Content) (tables : List (List ℕ)) (count : ℕ) → length tables ≡ 10 → 10 ≤ count
    → IfTold t (λ c. AreRead c.files tables count) → IfTold t (λ c. gathered c.files ≡ AllRead tables)
unfolding gathered
told_all (Some c) tables count ten l read = all_read c.files 0 table_names tables ten (λ k m. read.each k (omega arith))
told_all None tables count ten l read = tt

long_at : (t : Option Content) (tables : List (List ℕ)) (k : ℕ) (name : List ℕ) → k < 10 → name ≡ get_or table_names k []
    → IfTold t (λ c. AreRead c.files tables k) → IfTold t (λ c. fetched file_limit c.files name ≡ TooLong) → IfTold t (λ c. gathered c.files ≡ Long k)
unfolding gathered
long_at (Some c) tables k name l e read long =
    first_long c.files 0 table_names (λ j. get_or tables j []) k l read.each (ap (fetched file_limit c.files) (sym e) ∙ long)
    ∙ ap Long (let z : 0 + k ≡ k = omega arith in z)
long_at None tables k name l e read long = tt

lacking_at : (t : Option Content) (tables : List (List ℕ)) (k : ℕ) (name : List ℕ) → k < 10 → name ≡ get_or table_names k []
    → IfTold t (λ c. AreRead c.files tables k) → IsMissing t name → IsOneMissing t
unfolding gathered
lacking_at (Some c) tables k name l e read missing =
    first_lacking c.files 0 table_names (λ j. get_or tables j []) k l read.each
    (ap (fetched file_limit c.files) (sym e) ∙ ap (within file_limit) missing)
lacking_at None tables k name l e read missing = missing

-- what a desk tells is told as before
retold : (t u : Option Content) (P : Content → Type 0) → u ≡ t → IfTold u P → IfTold t P
retold t u P same h = subst (λ w. IfTold w P) same h

pub told_long : (t u : Option Content) (tables : List (List ℕ)) (k : ℕ) (name : List ℕ) (f : Fetched) → u ≡ t → k < 10 → name ≡ get_or table_names k [] → f ≡ TooLong
    → IfTold t (λ c. AreRead c.files tables k) → IfTold u (λ c. fetched file_limit c.files name ≡ f) → IfTold t (λ c. gathered c.files ≡ Long k)
told_long t u tables k name f same l e is read got =
    long_at t tables k name l e read (retold t u (λ c. fetched file_limit c.files name ≡ TooLong) same (subst (λ f. IfTold u (λ c. fetched file_limit c.files name ≡ f)) is got))

-- a reading failed
pub told_cause : (t u : Option Content) (first before now : ℕ) (tables : List (List ℕ)) (k : ℕ) (name : List ℕ) → u ≡ t → first ≤ before → k < 10 → name ≡ get_or table_names k []
    → IfTold t (λ c. AreRead c.files tables k) → Rose before now ⊎ IsMissing u name → Rose first now ⊎ IsOneMissing t
told_cause t u first before now tables k name same less l e read (inl rose) = inl (omega arith)
told_cause t u first before now tables k name same less l e read (inr missing) = inr (lacking_at t tables k name l e read (subst (λ w. IsMissing w name) same missing))

-- a file of the tables by its number
pub named : (file : ℕ) → file < 10 → file_name file ≡ get_or table_names file []
named zero l = refl
named (suc zero) l = refl
named (suc (suc zero)) l = refl
named (suc (suc (suc zero))) l = refl
named (suc (suc (suc (suc zero)))) l = refl
named (suc (suc (suc (suc (suc zero))))) l = refl
named (suc (suc (suc (suc (suc (suc zero)))))) l = refl
named (suc (suc (suc (suc (suc (suc (suc zero))))))) l = refl
named (suc (suc (suc (suc (suc (suc (suc (suc zero)))))))) l = refl
named (suc (suc (suc (suc (suc (suc (suc (suc (suc zero))))))))) l = refl
named (suc (suc (suc (suc (suc (suc (suc (suc (suc (suc file)))))))))) l = absurd (omega arith)
