-- How a program ends that prints a log.
use Rattle.std.specs.Prelude.{◌≡◌, ℕ, zero, suc, List, ◌++◌, Option, codes}
use Rattle.std.specs.Io.KnownBytes.{Appends}
use Rattle.logview.specs.{Engine.IsLogFault, Engine.PrintsLog, Engine.log_fault_text}
use Rattle.logview.specs.{declared.fault.LogFault.LogFault}
use Rattle.logview.specs.declared.fault.LogFault.TheVariants.{Write}

-- the line that tells a fault
abbrev pub log_fault_line : LogFault → List ℕ
log_fault_line fault = log_fault_text fault ++ codes "\n"

-- the log was printed, and nothing told
pub record IsLogPrinted {W E : Type 0} (contents : W → Option (List ℕ)) (bytes : List ℕ) (w w' : W)
    (e e' : E) : Type 0 where
  pub printed : PrintsLog bytes (contents w) (contents w')
  pub silent : e' ≡ e

-- the log was refused for a fault, which was told; only if the writer failed can anything have been written
pub record IsLogRefused {W E : Type 0} (told_to : E → Option (List ℕ)) (bytes : List ℕ) (w w' : W)
    (e e' : E) : Type 0 where
  pub fault : LogFault
  pub why : IsLogFault bytes fault
  pub told : Appends (told_to e) (told_to e') (log_fault_line fault)
  pub nothing_written : (fault ≡ Write → ⊥) → w' ≡ w

-- the exit status 0 says that the log was printed, and 1 that it was refused; there is no other
abbrev pub EndsLog : {W E : Type 0} → (W → Option (List ℕ)) → (E → Option (List ℕ)) → ℕ → List ℕ → W → W → E
    → E → Type 0
EndsLog contents told_to zero bytes w w' e e' = IsLogPrinted contents bytes w w' e e'
EndsLog contents told_to (suc zero) bytes w w' e e' = IsLogRefused told_to bytes w w' e e'
EndsLog contents told_to (suc (suc n)) bytes w w' e e' = ⊥
