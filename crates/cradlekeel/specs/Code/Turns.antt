-- What a turn of the program comes to, by what the system answered to a read or a write. A contract cannot say what a local holds or what
-- the system did, so this is left to be read in the code: `answer_read` is handed what `Read::read` answered, and `after_write` what
-- `write_out` made of the answer of `Write::write_all`; what is written is what `text::block` and `text::finish` put at the start of their
-- buffers; after a block the turn stops only where a write failed; `main` begins with no line, reads on with the line carried on, and
-- finishes the last.
use Rattle.std.specs.Prelude.{ℕ, zero, suc, ◌≡◌, List, ◌⊎◌, Option, Some, None, Result, Ok, Err, length, take, min}
use Rattle.std.specs.Io.{ReadsAtMost}
use Rattle.std.specs.declared.io.Error.{Error}
use Rattle.text.specs.declared.grammar.Scan.{Scan}
use Rattle.text.specs.Block.{leaves}
use Rattle.cradlekeel.specs.declared.Stop.{Stop}
use Rattle.cradlekeel.specs.declared.Stop.TheVariants.{NoRead, NoWrite, Unread}

-- what one read of the input came to: the line carried on, none where the input has ended, or why the program stops
abbrev pub Turn : Type 0
Turn = Result (Option Scan) Stop

-- a write failed
abbrev pub Unwritten : {A : Type 0} → Result A Stop → Type 0
Unwritten r = (r ≡ Err NoWrite) ⊎ (r ≡ Err Unread)

-- a write of some bytes: all was written, or not
abbrev pub AfterWrite : Result (Unit {0}) Stop → Type 0
AfterWrite written = (written ≡ Ok tt) ⊎ Unwritten written

-- after a write: the line is carried on where all was written, and else the program stops
abbrev pub after_write : Result (Unit {0}) Stop → Scan → Result Scan Stop
after_write (Ok u) scan = Ok scan
after_write (Err stop) scan = Err stop

-- after a block: a write failed, or the line carried on is that after the whole block
abbrev pub AfterBlock : Scan → List ℕ → Result Scan Stop → Type 0
AfterBlock scan block line = Unwritten line ⊎ (line ≡ Ok (leaves scan block))

-- the turn that carries a line on
abbrev pub carried : Result Scan Stop → Turn
carried (Ok scan) = Ok (Some scan)
carried (Err stop) = Err stop

-- after a read into a buffer, by its answer: an error where it failed, 0 at the end of the input, or how many bytes it read
abbrev pub AfterRead : {E : Type 0} → Scan → List ℕ → Result ℕ E → Turn → Type 0
AfterRead scan buffer (Err e) turn = turn ≡ Err NoRead
AfterRead scan buffer (Ok zero) turn = turn ≡ Ok None
AfterRead scan buffer (Ok (suc k)) turn =
    (line : Result Scan Stop) × (AfterBlock scan (take (min (suc k) (length buffer)) buffer) line) × (turn ≡ carried line)

-- the same of some answer that a read may give
abbrev pub AfterSomeRead : Scan → List ℕ → Turn → Type 0
AfterSomeRead scan buffer turn = (got : Result ℕ Error) × (ReadsAtMost got buffer) × (AfterRead scan buffer got turn)
