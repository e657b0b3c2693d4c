-- `refused_line`: the word and two numbers fit, and the line feed after them.
use Rattle.std.proofs.Common.{◌++◌, ◌∙◌, ap, length, length-append, arith}
use Rattle.text.specs.Line.{feed, refused_word, refused_line, spaced}
use Rattle.text.proofs.Room.{spaced_short, one_byte}
use Rattle.text.proofs.refused_line.Goals as goal

pub put_spaced-requires : goal.put_spaced-requires
put_spaced-requires c = omega (arith, ap length c.new-line.ensures, spaced_short c.args.number (omega arith))

pub put_spaced-requires-2 : goal.put_spaced-requires-2
put_spaced-requires-2 c =
    omega (
      arith,
      ap length c.new-line.ensures,
      ap length c.put_spaced.ensures,
      length-append c.push_str.new.self.bytes (spaced c.args.number),
      spaced_short c.args.number (omega arith),
      spaced_short c.args.place (omega arith),
    )

pub push-requires : goal.push-requires
push-requires c =
    omega (
      arith,
      one_byte,
      ap length c.new-line.ensures,
      ap length c.put_spaced.ensures,
      ap length c.put_spaced-2.ensures,
      length-append c.push_str.new.self.bytes (spaced c.args.number),
      length-append c.put_spaced.new.line.bytes (spaced c.args.place),
      spaced_short c.args.number (omega arith),
      spaced_short c.args.place (omega arith),
    )

pub returns : goal.returns
unfolding refused_line
returns c =
    c.push.ensures.ascii (omega arith)
    ∙ ap (λ t. t ++ feed)
    (c.put_spaced-2.ensures ∙ ap (λ t. t ++ spaced c.args.place)
    (c.put_spaced.ensures ∙ ap (λ t. t ++ spaced c.args.number) (c.push_str.ensures.bytes ∙ ap (λ t. t ++ refused_word) c.new-line.ensures)))
