-- The number that each refusal is sent back as, case by case. Assumes nothing.
use Rattle.std.specs.Prelude.{ℕ}
use Rattle.refusals.specs.declared.Refusal.{Refusal}
use Rattle.refusals.specs.declared.Refusal.TheVariants.{
  Memory,
  ListFull,
  NoFrame,
  Header,
  BodyLength,
  Body,
  LongText,
  IllFormed,
  DocumentState,
  Opening,
  Version,
  NoLine,
  InsideCharacter,
  StartAfterEnd,
  ResultTooLong,
  Waiting,
  ListShape,
  TooManyTokens,
  Exhausted,
}

abbrev pub number_of : Refusal → ℕ
number_of Memory = 1
number_of ListFull = 2
number_of NoFrame = 3
number_of Header = 4
number_of BodyLength = 5
number_of Body = 6
number_of LongText = 7
number_of IllFormed = 8
number_of DocumentState = 9
number_of Opening = 10
number_of Version = 11
number_of NoLine = 12
number_of InsideCharacter = 13
number_of StartAfterEnd = 14
number_of ResultTooLong = 15
number_of Waiting = 16
number_of ListShape = 17
number_of TooManyTokens = 18
number_of Exhausted = 19
