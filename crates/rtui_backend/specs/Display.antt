-- The printed texts.
use Rattle.std.specs.Prelude.{ℕ, List, codes}
use Rattle.rtui_backend.specs.{declared.test.TestError.TestError, declared.test.TestError.TheVariants.Memory}
use Rattle.rtui_backend.specs.{declared.test.TestError.TheVariants.Told}

-- the printed error
abbrev pub test_error_text : TestError → List ℕ
test_error_text Memory = codes "no memory"
test_error_text Told = codes "told"
