-- Answers.
use Rattle.std.specs.Prelude.{None}
use Rattle.state.specs.declared.answer.Answer.{Answer}
use Rattle.state.specs.declared.answer.Word.{Word}

-- only a word: nothing is sent, nothing committed
abbrev pub saying : Word → Answer
saying word = record { word = word; height = 0; certificate = None; message = None; blame = None }
