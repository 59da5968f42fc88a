use Rattle.std.proofs.Common.{◌≡◌, take, ℕ, List, Some, ap, ◌∙◌, arith}
use Rattle.std.proofs.lemmas.Grind.{common_steps}
use Rattle.text.specs.Lines.{content}
use Rattle.scanner.specs.declared.runs.Run.TheVariants as runs
use Rattle.scanner.proofs.Classes.{run_taken}
use Rattle.settings.specs.declared.Opening.TheVariants.{Word}
use Rattle.settings.specs.Reading.{word_piece, read_as, settings_reading}
use Rattle.settings.proofs.SettingsReader.piece.Goals as goal

pub returns-in-Word : goal.returns-in-Word
returns-in-Word c =
    let rest : List ℕ = c.args.rest.now in
    let word = ap (λ (n : ℕ). take n rest) c.length_in-length.ensures.run ∙ run_taken runs.Word rest in
    let line : read_as Word c.args.clear (content rest) ≡ settings_reading c.args.clear (content rest) = grind (arith, common_steps) in
    ap Some (c.word_piece.ensures ∙ ap (word_piece c.args.clear) word) ∙ line
