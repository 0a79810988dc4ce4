-- The streams of a run, and the results of reads and writes.
use Rattle.std.specs.Prelude.{◌≡◌, ◌≢◌, ℕ, ◌==◌, List, [], ◌++◌, Bool, true, false, Result, Option, IfSome, IfOk, OnOk, MatchResult}
use Rattle.std.specs.List.{list_any}
use Rattle.std.specs.Io.{StopsAt}
use Rattle.std.specs.Io.BufRead.{DropsThrough, first_piece}
use Rattle.std.specs.Io.KnownBytes.{Appends, Consumes, IsAtEnd, Keeps}
use Rattle.blob_lab.specs.declared.ending.Ending.{Ending}
use Rattle.blob_lab.specs.declared.ending.Ending.TheVariants.{InputFailed, OutputFailed, BadCall}
use Rattle.blob_lab.specs.declared.streams.Input.{Input}
use Rattle.blob_lab.specs.declared.streams.Output.{Output}
use Rattle.blob_lab.specs.Reading.{IsReadOut, StaysKnown}

abbrev pub reader_of : {R : Type 0} → Input R → R
reader_of input = input.reader

-- how many more lines may be read
abbrev pub lines_left : {R : Type 0} → Input R → ℕ
lines_left input = input.left

-- whether a read failed
abbrev pub read_failed : {R : Type 0} → Input R → Bool
read_failed input = input.failed

abbrev pub writer_of : {W : Type 0} → Output W → W
writer_of output = output.writer

-- whether a write or a flush failed
abbrev pub write_failed : {W : Type 0} → Output W → Bool
write_failed output = output.failed

-- whether the writer was flushed after the last write
abbrev pub is_flushed : {W : Type 0} → Output W → Bool
is_flushed output = output.flushed

-- whether these bytes include a whole line, so that taking it doesn't wait
abbrev pub has_line : List ℕ → Bool
has_line bytes = list_any (λ b. b == 10) bytes

-- the next line is in the reader's buffer
abbrev pub HasLineReady : {R : Type 0} → (R → List ℕ) → Input R → Type 0
HasLineReady ready input = has_line (ready (reader_of input)) ≡ true

-- What failed, and how a result says so.

-- a write or a flush failed exactly if the result is an error
abbrev pub ToldOutput : {T E W : Type 0} → Result T E → Output W → Output W → Type 0
ToldOutput result old new = MatchResult result (λ _. write_failed new ≡ write_failed old) (λ _. write_failed new ≡ true)

-- no stream failed
abbrev pub StaySound : {R W : Type 0} → Input R → Input R → Output W → Output W → Type 0
StaySound i i' o o' = (read_failed i' ≡ read_failed i) × (write_failed o' ≡ write_failed o)

-- the stream that this ending names failed, and no other
abbrev pub NamesFailed : {R W : Type 0} → Ending → Input R → Input R → Output W → Output W → Type 0
NamesFailed InputFailed i i' o o' = (read_failed i' ≡ true) × (write_failed o' ≡ write_failed o)
NamesFailed OutputFailed i i' o o' = (read_failed i' ≡ read_failed i) × (write_failed o' ≡ true)
NamesFailed ending i i' o o' = StaySound i i' o o'

abbrev pub ToldEnding : {T R W : Type 0} → Result T Ending → Input R → Input R → Output W → Output W → Type 0
ToldEnding result i i' o o' = MatchResult result (λ _. StaySound i i' o o') (λ ending. NamesFailed ending i i' o o')

-- The bytes that were read and written.

-- a prefix of the bytes was appended
abbrev pub AppendsPart : Option (List ℕ) → Option (List ℕ) → List ℕ → Type 0
AppendsPart old new bytes = (front : List ℕ) × (rest : List ℕ) × (bytes ≡ front ++ rest) × Appends old new front

-- if a reader's bytes are known, P holds of them, and of a writer's contents before and after
abbrev pub OfKnown : {R W : Type 0} → (R → Option (List ℕ)) → (W → Option (List ℕ)) → R → W → W → (List ℕ → Option (List ℕ) → Option (List ℕ) → Type 0) → Type 0
OfKnown remaining contents r w w' P = IfSome (remaining r) (λ bytes. P bytes (contents w) (contents w'))

-- if the run ended at a bad line, P of its number holds of the bytes, and of the contents before and after
abbrev pub OnKnownBadCall : {R W : Type 0} → (R → Option (List ℕ)) → (W → Option (List ℕ)) → Ending → R → W → W → (ℕ → List ℕ → Option (List ℕ) → Option (List ℕ) → Type 0) → Type 0
OnKnownBadCall remaining contents ending r w w' P = (number : ℕ) → ending ≡ BadCall number → OfKnown remaining contents r w w' (P number)

-- both for the reader and the writer of a run
abbrev pub OfBytes : {R W : Type 0} → (R → Option (List ℕ)) → (W → Option (List ℕ)) → Input R → Output W → Output W → (List ℕ → Option (List ℕ) → Option (List ℕ) → Type 0) → Type 0
OfBytes remaining contents i o o' P = OfKnown remaining contents (reader_of i) (writer_of o) (writer_of o') P

abbrev pub OnBadCall : {R W : Type 0} → (R → Option (List ℕ)) → (W → Option (List ℕ)) → Ending → Input R → Output W → Output W → (ℕ → List ℕ → Option (List ℕ) → Option (List ℕ) → Type 0) → Type 0
OnBadCall remaining contents ending i o o' P = OnKnownBadCall remaining contents ending (reader_of i) (writer_of o) (writer_of o') P

-- one line was read, without its line feed, or the end of the input; after an error at most a part of a line was taken
pub record ReadsLine (result : Result Bool Ending) (old new : Option (List ℕ)) (read : List ℕ) : Type 0 where
  pub line : OnOk result (IfSome old (λ xs. read ≡ first_piece 10 xs))
  pub rest : OnOk result (DropsThrough old new 10)
  pub some : IfOk result (λ some. some ≡ true → IfSome old (λ xs. xs ≢ []))
  pub end : IfOk result (λ some. some ≡ false → IsAtEnd old)
  pub taken : (part : List ℕ) × StopsAt part 10 × Consumes old new part

-- the same for the reader of a run
abbrev pub ReadsInputLine : {R : Type 0} → (R → Option (List ℕ)) → Result Bool Ending → Input R → Input R → List ℕ → Type 0
ReadsInputLine remaining result i i' read = ReadsLine result (remaining (reader_of i)) (remaining (reader_of i')) read

-- the remaining bytes were appended to a buffer
abbrev pub ReadsRest : {R : Type 0} → (R → Option (List ℕ)) → Input R → List ℕ → List ℕ → Type 0
ReadsRest remaining i before after = IfSome (remaining (reader_of i)) (λ left. after ≡ before ++ left)

-- one line was taken
abbrev pub DropsLine : {R : Type 0} → (R → Option (List ℕ)) → Input R → Input R → Type 0
DropsLine remaining i i' = DropsThrough (remaining (reader_of i)) (remaining (reader_of i')) 10

-- no byte remains
abbrev pub IsReadToEnd : {R : Type 0} → (R → Option (List ℕ)) → Input R → Input R → Type 0
IsReadToEnd remaining i i' = IsReadOut (remaining (reader_of i)) (remaining (reader_of i'))

-- the remaining bytes are still known
abbrev pub KeepsKnown : {R : Type 0} → (R → Option (List ℕ)) → Input R → Input R → Type 0
KeepsKnown remaining i i' = StaysKnown (remaining (reader_of i)) (remaining (reader_of i'))

-- nothing was written
abbrev pub KeepsOutput : {W : Type 0} → (W → Option (List ℕ)) → Output W → Output W → Type 0
KeepsOutput contents o o' = Keeps (contents (writer_of o)) (contents (writer_of o'))

-- these bytes were written
abbrev pub WritesAll : {W : Type 0} → (W → Option (List ℕ)) → Output W → Output W → List ℕ → Type 0
WritesAll contents o o' bytes = Appends (contents (writer_of o)) (contents (writer_of o')) bytes

-- a prefix of these bytes was written
abbrev pub WritesPrefix : {W : Type 0} → (W → Option (List ℕ)) → Output W → Output W → List ℕ → Type 0
WritesPrefix contents o o' bytes = AppendsPart (contents (writer_of o)) (contents (writer_of o')) bytes
