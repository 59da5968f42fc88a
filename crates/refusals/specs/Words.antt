-- What a refusal says, in a few words, case by case. Assumes nothing.
use Rattle.std.specs.Prelude.{ℕ, List, codes}
use Rattle.refusals.specs.declared.Refusal.{Refusal}
use Rattle.refusals.specs.declared.Refusal.TheVariants.{
  Memory,
  ListFull,
  NoFrame,
  Header,
  BodyLength,
  Body,
  LongText,
  IllFormed,
  DocumentState,
  Opening,
  Version,
  NoLine,
  InsideCharacter,
  StartAfterEnd,
  ResultTooLong,
  Waiting,
  ListShape,
  TooManyTokens,
  Exhausted,
}

abbrev pub said : Refusal → List ℕ
said Memory = codes "memory is shorter than stated, or a stored text is ill-formed"
said ListFull = codes "the list of sent frames is full"
said NoFrame = codes "no frame of that number"
said Header = codes "the header is not as laid out"
said BodyLength = codes "the bytes after the header are not as many as it says"
said Body = codes "the body is no message for this end"
said LongText = codes "a text is over 8,192 bytes"
said IllFormed = codes "a text is ill-formed"
said DocumentState = codes "the document is shut, or open already"
said Opening = codes "the opening is not this end's"
said Version = codes "the version does not fit"
said NoLine = codes "a position's line is not there"
said InsideCharacter = codes "a position falls inside a character"
said StartAfterEnd = codes "the start lies after the end"
said ResultTooLong = codes "the new text would pass 8,192 bytes"
said Waiting = codes "a question waits, or none does"
said ListShape = codes "a token list does not fit"
said TooManyTokens = codes "over 512 tokens"
said Exhausted = codes "a number would pass its range"
