-- What the methods of a board are asked and answer, in plain numbers for C. Definitions only.
use Rattle.std.specs.Prelude.{Result, Ok, Err, cond, ℕ, eqb, leb}
use Rattle.refusal.specs.Number.{number_of}
use Rattle.board.specs.Table.{zero_lot, refusal_of, stamp_of, Call}
use Rattle.board.specs.Boards.{handed}
use Rattle.board.specs.declared.Party.{Party}
use Rattle.board.specs.declared.Party.TheVariants.{Ours, Partner}
use Rattle.board.specs.declared.Board.{Board}
use Rattle.board.specs.declared.Told.{Told}
use Rattle.board.specs.declared.Told.TheVariants.{Loaded, Holds, Stored}
use Rattle.board.specs.declared.Denied.{Denied}
use Rattle.board.specs.declared.Denied.TheVariants.{NoSuchPlace}
use Rattle.board.specs.declared.Answered.{Answered}
use Rattle.cct_c.specs.declared.boards.PlainTold.{PlainTold}
use Rattle.cct_c.specs.declared.boards.BoardAnswer.{BoardAnswer}

-- the lot, the stamp and the refusal's number, each 0 where it is not carried
abbrev pub plain_told : Result Told Denied → PlainTold
plain_told (Ok Loaded) = record { lot = zero_lot; stamp = 0; refusal = 0 }
plain_told (Ok (Holds l)) = record { lot = l; stamp = 0; refusal = 0 }
plain_told (Ok Stored) = record { lot = zero_lot; stamp = 0; refusal = 0 }
plain_told (Err d) = record { lot = zero_lot; stamp = stamp_of d; refusal = number_of (refusal_of d) }

abbrev pub plain_answered : Answered → BoardAnswer
plain_answered a = record { board = a.board; told = plain_told a.told }

-- the parties by their numbers: 0 is ours, and 1 the partner
abbrev pub party_of : ℕ → Party
party_of n = cond (eqb n 0) Ours Partner

-- a call in the name of any other number finds no place, and leaves the board as it was
abbrev pub no_place : Board → Answered
no_place b = record { board = b; told = Err NoSuchPlace }

abbrev pub asked : (party : ℕ) → Board → (Party → Call Party) → Answered
asked n b c = cond (leb n 1) (handed b (c (party_of n))) (no_place b)
