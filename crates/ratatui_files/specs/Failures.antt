-- What kinds of errors of the system are called.
use Rattle.std.specs.declared.io.ErrorKind.{ErrorKind}
use Rattle.std.specs.declared.io.ErrorKind.TheVariants as kind
use Rattle.ratatui_files.specs.declared.answer.Failure.{Failure}
use Rattle.ratatui_files.specs.declared.answer.Failure.TheVariants.{NotFound, NotAllowed, Exists, Full}
use Rattle.ratatui_files.specs.declared.answer.Failure.TheVariants.{NotEmpty}
use Rattle.ratatui_files.specs.declared.answer.Failure.TheVariants.{NotAFolder, IsAFolder, OtherDevice}
use Rattle.ratatui_files.specs.declared.answer.Failure.TheVariants.{BadName, Memory}
use Rattle.ratatui_files.specs.declared.answer.Failure.TheVariants.{Other}

abbrev pub failure_of : ErrorKind → Failure
failure_of kind.NotFound = NotFound
failure_of kind.PermissionDenied = NotAllowed
failure_of kind.ReadOnlyFilesystem = NotAllowed
failure_of kind.AlreadyExists = Exists
failure_of kind.StorageFull = Full
failure_of kind.QuotaExceeded = Full
failure_of kind.DirectoryNotEmpty = NotEmpty
failure_of kind.NotADirectory = NotAFolder
failure_of kind.IsADirectory = IsAFolder
failure_of kind.CrossesDevices = OtherDevice
failure_of kind.InvalidFilename = BadName
failure_of kind.OutOfMemory = Memory
failure_of _ = Other
