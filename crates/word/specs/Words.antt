-- The blank word: value 0 and a blank mark. It is what a place past the end of a page reads as. Assumes nothing.
use Rattle.word.specs.Marks.{mark_at}
use Rattle.word.specs.declared.mark.Mark.{Mark}
use Rattle.word.specs.declared.word.Word.{Word}

-- the mark of a word that no core has stored
abbrev pub blank_mark : Mark
blank_mark = mark_at 0

-- a word of value 0 that no core has stored
abbrev pub blank_word : Word
blank_word = record { value = 0; mark = blank_mark }
