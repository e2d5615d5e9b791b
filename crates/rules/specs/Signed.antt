-- The Bloom signature's operations as the rules have them, on its bits alone; the examples below are played with it.
-- Assumes nothing.
use Rattle.std.specs.Prelude.{false, List, replicate}
use Rattle.call.specs.Figures.{Five}
use Rattle.call.specs.declared.call.Call.{Call}
use Rattle.sets.specs.Rows.{bits_put, rows_taken_in, rows_cleared, words_of_bits}
use Rattle.sets.specs.Sentences.{Sets}
use Rattle.word.specs.declared.word.Word.{Word}
use Rattle.rules.specs.Runs.{Played, run}
use Rattle.word.specs.Words.{blank_word}
use Rattle.rules.specs.Steps.{Operations}

-- a test of (core, bit) for the 256 bits of each core
abbrev pub bloom : Operations Sets
bloom = record { holds = words_of_bits; put = bits_put; take_in = rows_taken_in; clear = rows_cleared }

-- no bit set
abbrev pub no_bits : Sets
no_bits core bit = false

-- a page of as many words as the figures name, all 0
abbrev pub zero_page : Five → List Word
zero_page f = replicate f.words blank_word

-- the calls on a fresh board over such a page
abbrev pub played : Five → List Call → Played Sets
played f calls = run bloom f (zero_page f) no_bits calls
