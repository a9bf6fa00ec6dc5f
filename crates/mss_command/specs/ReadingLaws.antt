-- A reading gives one meaning or one fault.
use Rattle.std.proofs.Common.{◌≡◌, Result, Ok, Err, sym, ◌∙◌}

pub same_meaning : {T F : Type 0} (a b : T) (reading : Result T F) → reading ≡ Ok a → reading ≡ Ok b → a ≡ b
same_meaning a b reading one other = let same = sym one ∙ other in cc

pub same_fault : {T F : Type 0} (a b : F) (reading : Result T F) → reading ≡ Err a → reading ≡ Err b → a ≡ b
same_fault a b reading one other = let same = sym one ∙ other in cc

pub meaning_or_fault : {T F : Type 0} (a : T) (b : F) (reading : Result T F) → reading ≡ Ok a → reading ≡ Err b → ⊥
meaning_or_fault a b reading one other = let same = sym one ∙ other in cc
