-- What a closure leaves of an empty buffer.
use Rattle.std.specs.Prelude.{Result, Err, alloc_error}
use Rattle.std.specs.{Borrow.MutBor, Fn.Once, Fn.FnOnceReturnsAtMut, declared.alloc.AllocError.AllocError}
use Rattle.rtui_geometry.specs.declared.rect.Rect.{Rect}
use Rattle.rtui_buffer.specs.BufferData.{BufferData, IsEmptied, HasRoomFor}

-- an empty buffer of an area, with room for its cells
pub record IsNewBuffer (area : Rect) (sheet : BufferData) : Type 0 where
  pub empty : IsEmptied area sheet
  pub room : HasRoomFor area sheet

-- f may be called on any such buffer
abbrev pub AcceptsRows : {F R : Type 0}
    → Once F (MutBor BufferData × Unit {0}) (R × (MutBor BufferData × Unit {0})) → F → Rect → Type 0
AcceptsRows once f area = (buffer : MutBor BufferData) → IsNewBuffer area buffer.now → once.pre f (buffer, tt)

-- a call of f on such a buffer gave an answer and left this buffer
pub record FillsRows {F R : Type 0} (once : Once F (MutBor BufferData × Unit {0})
    (R × (MutBor BufferData × Unit {0}))) (f : F) (area : Rect) (answer : R)
    (filled : BufferData) : Type 0 where
  pub before : BufferData
  pub new_buffer : IsNewBuffer area before
  pub ran : FnOnceReturnsAtMut once f before answer filled

-- a closure was refused memory: `filled` tells of it what it answered, and the buffer that it left
pub record RefusesFilling (filled : Result (Unit {0}) AllocError → BufferData → Type 0) : Type 0 where
  pub left : BufferData
  pub closure : filled (Err alloc_error) left
