-- `put::put_spaced` meets its contract: what std writes for the number is its digits, and a space and they fit.
use Rattle.std.proofs.Common.{◌∷◌, ◌++◌, ◌∙◌, [], ap, ap₂, append_assoc, length, arith}
use Rattle.text.specs.Line.{spaced, digits}
use Rattle.text.proofs.Room.{decimal_digits}
use Rattle.text.proofs.put.put_spaced.Goals as goal

pub push_str-requires : goal.push_str-requires
unfolding spaced
push_str-requires c = omega (arith, c.requires)

pub push_str-requires-2 : goal.push_str-requires-2
unfolding spaced
push_str-requires-2 c =
    omega (arith, c.requires, c.push_str.ensures.len, ap length (c.format.ensures.text ∙ decimal_digits _ (omega arith)))

pub returns : goal.returns
unfolding spaced
returns c =
    c.push_str-2.ensures.bytes
    ∙ ap₂ ◌++◌ c.push_str.ensures.bytes (c.format.ensures.text ∙ decimal_digits _ (omega arith))
    ∙ append_assoc c.args.line.now.bytes (32 ∷ []) (digits c.args.x)
