-- Readings that have no fault.
use Rattle.std.proofs.Common.{◌≡◌, Ok}
use Rattle.std.specs.Prelude.{Result}
use Rattle.mss_model.specs.declared.faults.TableFault.{TableFault}

-- a reading has no fault, and its meaning is seen like this
pub record IsRead {T X : Type 0} (reading : Result T TableFault) (view : T → X) (seen : X) : Type 0 where
  pub meaning : T
  pub is : reading ≡ Ok meaning
  pub seen_so : view meaning ≡ seen

-- a reading has no fault
pub record HasNoFault {T : Type 0} (reading : Result T TableFault) : Type 0 where
  pub meaning : T
  pub is : reading ≡ Ok meaning
