-- The number of each refusal: 1 to 8 as document 01's table "Numbers given instead of an answer" has them, the others from document 02, 9 and 10 from No. 1, 11 to 15 from No. 4, 16 to 19 from No. 6.
use Rattle.std.specs.Prelude.{ℕ}
use Rattle.refusal.specs.declared.Refusal.{Refusal}
use Rattle.refusal.specs.declared.Refusal.TheVariants.{BadEdges, NotFinite, OutOfRange, TooDark, TooFar, TooHot, TooCool, BadLine, BadLengths, SampleTooLarge, TooManyRecords, NoRoom, NoTrailer, BadRecordLength, BadTrailer, TooManyLots, NoSuchPlace, StaleStamp, LastStamp}

abbrev pub number_of : Refusal → ℕ
number_of BadEdges = 1
number_of NotFinite = 2
number_of OutOfRange = 3
number_of TooDark = 4
number_of TooFar = 5
number_of TooHot = 6
number_of TooCool = 7
number_of BadLine = 8
number_of BadLengths = 9
number_of SampleTooLarge = 10
number_of TooManyRecords = 11
number_of NoRoom = 12
number_of NoTrailer = 13
number_of BadRecordLength = 14
number_of BadTrailer = 15
number_of TooManyLots = 16
number_of NoSuchPlace = 17
number_of StaleStamp = 18
number_of LastStamp = 19
