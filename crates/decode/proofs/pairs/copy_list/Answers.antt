-- `copy_list` meets its contract: the count that is taken says how many atoms follow it.
use mathlib.Core.Path.{sym, ap}
use Rattle.rules.specs.Rule.{ones}
use Rattle.numbers.specs.Lists.{numbers_from}
use Rattle.numbers.specs.declared.Span.{Span}
use Rattle.decode.specs.Inner.Taken.{numbers_past, list_taken, list_past}
use Rattle.decode.proofs.pairs.Copy.{asks_as, list_as}
use Rattle.decode.proofs.pairs.copy_list.Goals as goal

pub copy_atoms-requires : goal.copy_atoms-requires
unfolding list_taken
copy_atoms-requires c =
    asks_as
    (ap (λ (p : Span). ones (numbers_from p.value c.args.s.now p.next)) (sym c.take_number-count.ensures))
    c.requires

pub returns : goal.returns
unfolding list_taken list_past
returns c =
    let s = c.args.s.now in
    list_as (ap (λ (p : Span). numbers_from p.value s p.next) c.take_number-count.ensures)
    (ap (λ (p : Span). numbers_past p.value s p.next) c.take_number-count.ensures)
    c.copy_atoms.ensures
