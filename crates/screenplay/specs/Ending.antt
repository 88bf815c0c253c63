-- How a program ends that prints a script.
use Rattle.std.specs.Prelude.{◌≡◌, ℕ, zero, suc, List, ◌++◌, Option, codes}
use Rattle.std.specs.Io.KnownBytes.{Appends}
use Rattle.screenplay.specs.{Engine.IsRunFault, Engine.PrintsRun, Engine.run_error_text}
use Rattle.screenplay.specs.{declared.error.RunError.RunError}
use Rattle.screenplay.specs.declared.error.RunError.TheVariants.{Write}

-- the line that tells a fault
abbrev pub run_fault_line : RunError → List ℕ
run_fault_line fault = run_error_text fault ++ codes "\n"

-- the script was refused for a fault, which was told; only if the writer failed can anything have been
-- written
pub record IsScriptRefused {W E : Type 0} (told_to : E → Option (List ℕ)) (bytes : List ℕ) (w w' : W)
    (e e' : E) : Type 0 where
  pub fault : RunError
  pub why : IsRunFault bytes fault
  pub told : Appends (told_to e) (told_to e') (run_fault_line fault)
  pub nothing_written : (fault ≡ Write → ⊥) → w' ≡ w

-- the exit status 0 says that the script was printed and nothing told, and 1 that it was refused; there is no
-- other
abbrev pub EndsScript : {W E : Type 0} → (W → Option (List ℕ)) → (E → Option (List ℕ)) → ℕ → List ℕ → W → W
    → E → E → Type 0
EndsScript contents told_to zero bytes w w' e e' = PrintsRun bytes (contents w) (contents w') × (e' ≡ e)
EndsScript contents told_to (suc zero) bytes w w' e e' = IsScriptRefused told_to bytes w w' e e'
EndsScript contents told_to (suc (suc n)) bytes w w' e e' = ⊥
