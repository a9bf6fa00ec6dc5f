-- What the adding of a name does.
use Rattle.std.specs.Prelude.{◌≡◌, ◌<◌, ◌++◌, ◌∷◌, [], true, false, ℕ, ◌+◌, List, length, Option, Some, None}
use Rattle.mss_model.specs.NameRule.{is_name_text}
use Rattle.mss_names.specs.NameNumbers.{NamesView, number_of}
use Rattle.mss_names.specs.declared.table.NameRefusal.{NameRefusal}
use Rattle.mss_names.specs.declared.table.NameRefusal.TheVariants as refusal

-- a name that has a number keeps it, and a new one goes last
abbrev pub AddsAt : NamesView → List ℕ → ℕ → NamesView → Option ℕ → Type 0
AddsAt old name number new (Some n) = (number ≡ n) × (new ≡ old)
AddsAt old name number new None =
    (length old.names < old.limit) × (number ≡ length old.names + 1) × (new ≡ record { limit = old.limit; names = old.names ++ (name ∷ []) })

-- the name has this number in the table that is left
abbrev pub Adds : NamesView → List ℕ → ℕ → NamesView → Type 0
Adds old name number new = (is_name_text name ≡ true) × AddsAt old name number new (number_of old.names name)

-- a good name that the table doesn't have
pub record IsNew (names : List (List ℕ)) (name : List ℕ) : Type 0 where
  pub good : is_name_text name ≡ true
  pub absent : number_of names name ≡ None

-- why a name isn't added
abbrev pub Refuses : NamesView → List ℕ → NameRefusal → Type 0
Refuses old name refusal.BadName = is_name_text name ≡ false
Refuses old name refusal.TooMany = IsNew old.names name × (length old.names ≡ old.limit)
Refuses old name refusal.NoMemory = IsNew old.names name × (length old.names < old.limit)
