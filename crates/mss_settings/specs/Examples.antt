-- Worked examples: the first faults of parsed tables, and what one without a fault says.
use Rattle.std.specs.Prelude.{◌≡◌, ℕ, pos, negsuc, [], ◌∷◌, Some, None, codes, refl}
use Rattle.toml.specs.Data.{Data, integer, string, array, no_items, item, Members, no_members, member}
use Rattle.mss_model.specs.declared.faults.Kind.TheVariants as kind
use Rattle.mss_settings.specs.Faults.{fault_at}
use Rattle.mss_settings.specs.Meaning.{settings_of, table_fault}
use Rattle.mss_settings.specs.OnLiteralsLaws.{settings_on_literals}

abbrev pub number : ℕ → Data
number n = integer (pos n)

-- a table with this version and these further keys
abbrev pub table_with : ℕ → Members → Members
table_with version further =
    member (codes "version") (number version)
    (member (codes "days") (number 7)
    (member (codes "level") (number 900000)
    (member (codes "report") (array (item (number 500000) no_items))
    (member (codes "watch") (array (item (string (codes "North")) no_items))
    (member (codes "budget") (number 20) further)))))

abbrev pub parts : ℕ → Members → Members
parts n further = member (codes "parts") (number n) further

abbrev pub allow : Data → Members
allow d = member (codes "allow") d no_members

first_version : table_fault (Some (table_with 1 no_members)) ≡ None
unfolding settings_on_literals
first_version = refl

-- chances in parts of a million, and no bed that is always taken
first_means : settings_of (table_with 1 no_members)
    ≡ record { days = 7; parts = 1000000; level = 900000; levels = 500000 ∷ []; watch = codes "North" ∷ []; allow = 0 ∷ []; budget = 20 }
unfolding settings_on_literals
first_means = refl

second_version : table_fault (Some (table_with 2 (parts 1000000000 (allow (array (item (number 3) no_items)))))) ≡ None
unfolding settings_on_literals
second_version = refl

second_means : settings_of (table_with 2 (parts 1000000000 (allow (array (item (number 3) no_items)))))
    ≡ record { days = 7; parts = 1000000000; level = 900000; levels = 500000 ∷ []; watch = codes "North" ∷ []; allow = 3 ∷ []; budget = 20 }
unfolding settings_on_literals
second_means = refl

third_version : table_fault (Some (table_with 3 no_members)) ≡ Some (fault_at 1 kind.Version)
unfolding settings_on_literals
third_version = refl

parts_in_version_1 : table_fault (Some (table_with 1 (parts 1000000 no_members))) ≡ Some (fault_at 7 kind.Key)
unfolding settings_on_literals
parts_in_version_1 = refl

no_parts_in_version_2 : table_fault (Some (table_with 2 no_members)) ≡ Some (fault_at 7 kind.Key)
unfolding settings_on_literals
no_parts_in_version_2 = refl

allow_in_version_1 : table_fault (Some (table_with 1 (allow (array (item (number 3) no_items))))) ≡ Some (fault_at 8 kind.Key)
unfolding settings_on_literals
allow_in_version_1 = refl

-- the type of `allow` is tested before the number of `parts`
allow_is_a_number : table_fault (Some (table_with 2 (parts 1000 (allow (number 3))))) ≡ Some (fault_at 8 kind.Key)
unfolding settings_on_literals
allow_is_a_number = refl

parts_1000 : table_fault (Some (table_with 2 (parts 1000 no_members))) ≡ Some (fault_at 7 kind.Range)
unfolding settings_on_literals
parts_1000 = refl

two_for_one : table_fault (Some (table_with 2 (parts 1000000 (allow (array (item (number 3) (item (number 4) no_items))))))) ≡ Some (fault_at 8 kind.Range)
unfolding settings_on_literals
two_for_one = refl

above_1000 : table_fault (Some (table_with 2 (parts 1000000 (allow (array (item (number 1001) no_items)))))) ≡ Some (fault_at 8 kind.Range)
unfolding settings_on_literals
above_1000 = refl

below_0 : table_fault (Some (table_with 2 (parts 1000000 (allow (array (item (integer (negsuc 0)) no_items)))))) ≡ Some (fault_at 8 kind.Range)
unfolding settings_on_literals
below_0 = refl
