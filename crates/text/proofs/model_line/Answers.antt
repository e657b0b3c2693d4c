-- `model_line`: the line names the in-atoms among 1 to `i`.
use Rattle.std.proofs.Common.{◌≡◌, ◌+◌, ◌++◌, ◌∙◌, ℕ, min, sym, ap, length, length-append, arith, rules}
use Rattle.rules.specs.Limits.{atoms_most}
use Rattle.text.specs.Line.{feed, model_word, model_line, spaced, spaced_all, in_atoms}
use Rattle.text.proofs.Lines.{atom_in, atom_out}
use Rattle.text.proofs.Room.{spaced_short, atoms_room, one_byte}
use Rattle.text.proofs.model_line.Goals.{then-is_in, else-is_in}
use Rattle.text.proofs.model_line.Goals as goal

pub loop-i-init : goal.loop-i-init
unfolding in_atoms spaced_all
loop-i-init c = search rules

pub put_spaced-requires : goal.put_spaced-requires
unfolding atoms_most
put_spaced-requires c =
    omega (
      arith,
      ap length c.loop-i.invariant,
      length-append model_word (spaced_all (in_atoms c.loop-i.i c.args.map.now)),
      spaced_short (c.loop-i.i + 1) (omega arith),
      atoms_room c.args.map.now c.loop-i.i (omega arith),
    )

pub loop-i-preserved : goal.loop-i-preserved
loop-i-preserved c =
    elim c.if-is_in.branch [
      | then-is_in w ↦
          ap (λ l. l.bytes) w.names-is ∙ w.put_spaced.ensures
          ∙ ap (λ t. t ++ spaced (c.loop-i.i + 1)) c.loop-i.invariant
          ∙ ap (λ t. model_word ++ t) (sym (atom_in c.args.map.now c.loop-i.i (sym c.is_in.ensures ∙ w.if-is_in.true)))
      | else-is_in w ↦
          ap (λ l. l.bytes) w.names-is ∙ c.loop-i.invariant
          ∙ ap (λ t. model_word ++ t) (sym (atom_out c.args.map.now c.loop-i.i (sym c.is_in.ensures ∙ w.if-is_in.false)))
    ]

pub push-requires : goal.push-requires
unfolding atoms_most
push-requires c =
    omega (
      arith,
      one_byte,
      ap length c.loop-i.invariant,
      length-append model_word (spaced_all (in_atoms c.loop-i.i c.args.map.now)),
      atoms_room c.args.map.now c.loop-i.i (omega arith),
    )

pub returns : goal.returns
unfolding model_line atoms_most
returns c =
    let all : c.loop-i.i ≡ min c.args.n atoms_most = omega (arith, c.min-i-end.ensures) in
    c.push.ensures.ascii (omega arith) ∙ ap (λ t. t ++ feed) c.loop-i.invariant
    ∙ ap (λ (k : ℕ). model_word ++ spaced_all (in_atoms k c.args.map.now) ++ feed) all
