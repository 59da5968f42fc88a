use Rattle.std.proofs.Common.{rules}
use Rattle.text.specs.Units.{utf8_units, utf16_units, utf32_units}
use Rattle.chosen.proofs.Sizes.{within, short}
use Rattle.chosen.proofs.texts.change.Goals as goal

pub returns-in-Utf8 : goal.returns-in-Utf8
returns-in-Utf8 c = record {
  rule = search rules;
  within = within utf8_units c.args.memory.now c.args.size c.args.range c.args.inserted.now c.change.new.memory c.change.result c.change.ensures.change;
  short = short utf8_units c.args.memory.now c.args.size c.args.range c.args.inserted.now c.change.new.memory c.change.result c.change.ensures.change;
}

pub returns-in-Utf16 : goal.returns-in-Utf16
returns-in-Utf16 c = record {
  rule = search rules;
  within = within utf16_units c.args.memory.now c.args.size c.args.range c.args.inserted.now c.change-in-Utf16.new.memory c.change-in-Utf16.result c.change-in-Utf16.ensures.change;
  short = short utf16_units c.args.memory.now c.args.size c.args.range c.args.inserted.now c.change-in-Utf16.new.memory c.change-in-Utf16.result c.change-in-Utf16.ensures.change;
}

pub returns-in-Utf32 : goal.returns-in-Utf32
returns-in-Utf32 c = record {
  rule = search rules;
  within = within utf32_units c.args.memory.now c.args.size c.args.range c.args.inserted.now c.change-in-Utf32.new.memory c.change-in-Utf32.result c.change-in-Utf32.ensures.change;
  short = short utf32_units c.args.memory.now c.args.size c.args.range c.args.inserted.now c.change-in-Utf32.new.memory c.change-in-Utf32.result c.change-in-Utf32.ensures.change;
}
