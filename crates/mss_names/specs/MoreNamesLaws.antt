-- One name more keeps names good and distinct.
use Rattle.std.proofs.Common.{Vec, map, ap, ◌≡◌, ◌≢◌, ◌<◌, ◌≤◌, ◌+◌, ℕ, suc, Bool, true, false, List, [], ◌∷◌, ◌++◌, length, Option, Some, None, option_map, position, get_or, refl, sym, ◌∙◌, arith, inl, inr, length-append}
use Rattle.std.proofs.Math.ListN.{get_or-append}
use Rattle.std.proofs.Math.Seq.{get_or-append_seam}
use Rattle.std.proofs.lemmas.Bool.{cases_lt}
use Rattle.std.proofs.lemmas.List.Folds.{list_any_at}
use Rattle.std.proofs.lemmas.Slice.Eq.{bytes_eq-Decides}
use Rattle.std.specs.List.{list_any}
use Rattle.std.specs.Str.{bytes_eq}
use Rattle.std.specs.declared.alloc.Global.{Global}
use Rattle.std.proofs.lemmas.List.{map-append}
use Rattle.indexmap.specs.IndexSet.{insert_key}
use Rattle.mss_names.specs.TableView.{bytes_of}
use Rattle.mss_model.specs.NameRule.{is_name_text}
use Rattle.mss_model.specs.Limits.{AreNamed, AreNames, AreNamesDistinct}
use Rattle.mss_names.specs.Adding.{AddsAt}
use Rattle.mss_names.specs.NameNumbers.{NamesView, number_of}
use Rattle.mss_names.specs.NumberingLaws.{list_any-none}

option_map-none : {A B : Type 0} (f : A → B) (o : Option A) → option_map f o ≡ None → o ≡ None
option_map-none f None e = refl
option_map-none f (Some a) e = cc

-- a name without a number is none of the names
pub list_any-unnumbered : (names : List (List ℕ)) (name : List ℕ) → number_of names name ≡ None → list_any (bytes_eq name) names ≡ false
list_any-unnumbered names name e = list_any-none (bytes_eq name) names (option_map-none suc (position (bytes_eq name) names) e)

pub differs : (names : List (List ℕ)) (name : List ℕ) → number_of names name ≡ None → (i : ℕ) → i < length names → get_or names i [] ≢ name
differs names name e i h same =
    let is : bytes_eq name (get_or names i []) ≡ true = (bytes_eq-Decides name (get_or names i [])).1 (sym same) in
    let found : list_any (bytes_eq name) names ≡ true = list_any_at (bytes_eq name) names i [] h is in
    let none : list_any (bytes_eq name) names ≡ false = list_any-unnumbered names name e in
    cc

get_or-last : (names : List (List ℕ)) (name : List ℕ) (i : ℕ) → i ≡ length names → get_or (names ++ (name ∷ [])) i [] ≡ name
get_or-last names name i e = rw e (get_or-append_seam names name [] [])

length-last : (names : List (List ℕ)) (name : List ℕ) → length (names ++ (name ∷ [])) ≡ length names + 1
length-last names name = length-append names (name ∷ [])

named-more : (names : List (List ℕ)) (name : List ℕ) → AreNamed names → is_name_text name ≡ true → AreNamed (names ++ (name ∷ []))
named-more names name named good i h = elim (cases_lt i (length names)) [
  | inl below ↦ rw (get_or-append names (name ∷ []) [] i below) (named i below)
  | inr past ↦ let at : i ≡ length names = omega (arith, length-last names name) in rw (get_or-last names name i at) (record { text = good })
]

distinct-more : (names : List (List ℕ)) (name : List ℕ) → AreNamesDistinct names → number_of names name ≡ None → AreNamesDistinct (names ++ (name ∷ []))
distinct-more names name distinct new i j order h = elim (cases_lt j (length names)) [
  | inl below ↦
      let early : i < length names = omega arith in
      rw (get_or-append names (name ∷ []) [] i early, get_or-append names (name ∷ []) [] j below) (distinct i j order below)
  | inr past ↦
      let at : j ≡ length names = omega (arith, length-last names name) in
      let early : i < length names = omega arith in
      rw (get_or-append names (name ∷ []) [] i early, get_or-last names name j at) (differs names name new i early)
]

-- a new name in a table with room
pub names-more : (limit : ℕ) (names : List (List ℕ)) (name : List ℕ) → AreNames 0 limit names → is_name_text name ≡ true
    → number_of names name ≡ None → length names ≢ limit → AreNames 0 limit (names ++ (name ∷ []))
names-more limit names name good named new room = record {
  count = (let count = good.count in omega arith, let count = good.count in omega (arith, length-last names name));
  named = named-more names name good.named named;
  distinct = distinct-more names name good.distinct new;
}

list_any-map : {A B : Type 0} (test : B → Bool) (f : A → B) (xs : List A) → list_any test (map f xs) ≡ list_any (λ x. test (f x)) xs
list_any-map test f [] = refl
list_any-map test f (x ∷ xs) = rw (list_any-map test f xs) refl

-- the names of the keys after a new one is inserted
pub names-insert_key : (keys : List (Vec ℕ Global)) (key : Vec ℕ Global) (name : List ℕ) → key.items ≡ name → number_of (map bytes_of keys) name ≡ None
    → map bytes_of (insert_key (λ a b. bytes_eq a.items b.items) keys key) ≡ map bytes_of keys ++ (name ∷ [])
names-insert_key keys key name e new =
    let new2 : number_of (map bytes_of keys) key.items ≡ None = rw e new in
    let absent : list_any (λ k. bytes_eq key.items k.items) keys ≡ false = rw (list_any-map (bytes_eq key.items) bytes_of keys) at (list_any-unnumbered (map bytes_of keys) key.items new2) in
    rw absent (map-append bytes_of keys (key ∷ []) ∙ ap (λ s. map bytes_of keys ++ (s ∷ [])) e)

-- a new name in a table with room goes last
pub adds-new : (old : NamesView) (limit : ℕ) (before after : List (List ℕ)) (name : List ℕ) (number : ℕ) → record { limit = limit; names = before } ≡ old
    → length before ≤ limit → length before ≢ limit → after ≡ before ++ (name ∷ []) → number ≡ length after
    → AddsAt old name number (record { limit = limit; names = after }) None
adds-new old limit before after name number e few room more count =
    rw (← e) (omega arith, count ∙ ap length more ∙ length-last before name, ap (λ names. record { limit = limit; names = names }) more)
