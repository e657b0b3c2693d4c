-- What an accepted sheet has read, in order: the edition, the counts, the rules, the compute lists, and nothing more. So it is within the
-- limits, and has just the bytes that are written for what it says.
use Prim.Native.Nat.{ℕ, ◌+◌, ◌*◌, ◌≤◌}
use mathlib.Core.Path.{◌≡◌, refl, sym, ap, ap₂, subst, ◌∙◌}
use mathlib.Core.List.{List, ◌++◌, append-nil}
use native.Mathlib.Omega.{arith}
use lib.ListN.{length, drop_of_length-le}
use lib.Dec.{ltb, eqb}
use borrow.Author.Tests.{ltb-false, eqb-true}
use Rattle.std.specs.Prelude.{Result, Ok, Err}
use Rattle.rules.specs.Limits.{atoms_most, rules_most, bytes_most}
use Rattle.rules.specs.Rule.{Rule}
use Rattle.numbers.specs.Number.{number_at, within_at}
use Rattle.numbers.specs.Lists.{list_at}
use Rattle.numbers.specs.Shown.Encode.{number_bytes, IsBytes}
use Rattle.numbers.specs.declared.Refusal.{Refusal}
use Rattle.numbers.specs.declared.Span.{Span}
use Rattle.numbers.proofs.Answer.{from_read, from_yes, from_no, not_ok, same_ok}
use Rattle.numbers.proofs.Stands.{Stands, joined, stands_as}
use Rattle.numbers.proofs.number.Most.{limited, number_far}
use Rattle.numbers.proofs.number.Encoded.{number_bytes_law}
use Rattle.numbers.proofs.lists.Most.{run_keeps}
use Rattle.numbers.proofs.lists.Whole.{list_ran}
use Rattle.sheet.specs.Rule.{rule_step, rules_at}
use Rattle.sheet.specs.Sheet.{edition_at, tail_at, rest_at, whole_at, sheet_read}
use Rattle.sheet.specs.Meaning.{rules_from, sheet_meant}
use Rattle.sheet.specs.Shown.Encode.{rules_bytes, encode, AllLiving, WellFormed, ProperRules, rules_size}
use Rattle.sheet.specs.declared.Outline.{Outline}
use Rattle.sheet.proofs.sheet.Rules.{rules_ran}

-- the parts of an accepted sheet
pub record SheetParts (s : List ℕ) (o : Outline) : Type 0 where
  pub edition : Span
  pub first : (number_at s 0 ≡ Ok edition) × (edition.value ≡ 1)
  pub atoms : Span
  pub second : within_at s 0 atoms_most edition.next ≡ Ok atoms
  pub atoms_are : o.atoms ≡ atoms.value
  pub count : Span
  pub third : within_at s 0 rules_most atoms.next ≡ Ok count
  pub fourth : rules_at s o.atoms count.value count.next ≡ Ok o.rules
  pub fifth : list_at s 0 o.atoms o.rules.next ≡ Ok o.ins
  pub sixth : list_at s 0 o.atoms o.ins.next ≡ Ok o.outs
  pub ends : length s ≤ o.outs.next
  pub short : length s ≤ bytes_most

pub parts : (s : List ℕ) (o : Outline) → sheet_read s ≡ Ok o → SheetParts s o
unfolding sheet_read whole_at edition_at rest_at tail_at
parts s o e =
    let b = from_no (ltb bytes_most (length s)) _ _ (not_ok _) e in
    whole (ltb-false bytes_most (length s) b.0) b.1
  where
    made :
        (d a c r i u : Span) → (number_at s 0 ≡ Ok d) × (d.value ≡ 1) → within_at s 0 atoms_most d.next ≡ Ok a
        → within_at s 0 rules_most a.next ≡ Ok c → rules_at s a.value c.value c.next ≡ Ok r
        → list_at s 0 a.value r.next ≡ Ok i → list_at s 0 a.value i.next ≡ Ok u → length s ≤ u.next
        → length s ≤ bytes_most
        → ◌≡◌ {A = Result Outline Refusal} (Ok (record { atoms = a.value; rules = r; ins = i; outs = u })) (Ok o) → SheetParts s o
    made d a c r i u hd ha hc hr hi hu hl hb z =
        subst (λ (t : Outline). SheetParts s t) (same_ok z)
        (record {
          edition = d;
          first = hd;
          atoms = a;
          second = ha;
          atoms_are = refl;
          count = c;
          third = hc;
          fourth = hr;
          fifth = hi;
          sixth = hu;
          ends = hl;
          short = hb;
        })

    tail :
        (d a c r : Span) → (number_at s 0 ≡ Ok d) × (d.value ≡ 1) → within_at s 0 atoms_most d.next ≡ Ok a
        → within_at s 0 rules_most a.next ≡ Ok c → rules_at s a.value c.value c.next ≡ Ok r → length s ≤ bytes_most
        → tail_at s a.value r ≡ Ok o → SheetParts s o
    tail d a c r hd ha hc hr hb z =
        let i = from_read Err _ (list_at s 0 a.value r.next) not_ok z in
        let u = from_read Err _ (list_at s 0 a.value i.0.next) not_ok i.2 in
        let l = from_no (ltb u.0.next (length s)) _ _ (not_ok _) u.2 in
        made d a c r i.0 u.0 hd ha hc hr i.1 u.1 (ltb-false u.0.next (length s) l.0) hb l.1

    rest :
        (d a : Span) → (number_at s 0 ≡ Ok d) × (d.value ≡ 1) → within_at s 0 atoms_most d.next ≡ Ok a → length s ≤ bytes_most
        → rest_at s a.value a.next ≡ Ok o → SheetParts s o
    rest d a hd ha hb z =
        let c = from_read Err _ (within_at s 0 rules_most a.next) not_ok z in
        let r = from_read Err _ (rules_at s a.value c.0.value c.0.next) not_ok c.2 in
        tail d a c.0 r.0 hd ha c.1 r.1 hb r.2

    edition_is : (d : Span) → edition_at s ≡ Ok d → (number_at s 0 ≡ Ok d) × (d.value ≡ 1)
    edition_is d z =
        let f = from_read Err _ (number_at s 0) not_ok z in
        let v = from_yes (eqb f.0.value 1) _ _ (not_ok _) f.2 in
        let w : f.0 ≡ d = same_ok v.1 in
        (f.1 ∙ ap (λ (q : Span). Ok q) w, sym (ap (λ (q : Span). q.value) w) ∙ eqb-true f.0.value 1 v.0)

    whole : length s ≤ bytes_most → whole_at s ≡ Ok o → SheetParts s o
    whole hb z =
        let d = from_read Err _ (edition_at s) not_ok z in
        let a = from_read Err _ (within_at s 0 atoms_most d.0.next) not_ok d.2 in
        rest d.0 a.0 (edition_is d.0 d.1) a.1 hb a.2

-- an accepted sheet, and what it says
pub record SheetRan (s : List ℕ) (o : Outline) : Type 0 where
  pub well_formed : WellFormed (sheet_meant s o)
  pub count : length (sheet_meant s o).rules ≡ o.rules.value
  pub reads : rules_at s o.atoms o.rules.value o.rules.first ≡ Ok o.rules
  pub far :
      rules_size (sheet_meant s o).rules + 3 * length (sheet_meant s o).rules
      + (length (sheet_meant s o).compute_in + length (sheet_meant s o).compute_out) + 5
      ≤ length s
  pub short : length s ≤ bytes_most
  pub bytes : IsBytes s → s ≡ encode (sheet_meant s o)

-- bytes that stand at the start, up to the end, are all the bytes
whole_bytes : (s bytes : List ℕ) (next : ℕ) → length s ≤ next → Stands s 0 bytes next → s ≡ bytes
whole_bytes s bytes next h a = a.is ∙ ap (λ (q : List ℕ). bytes ++ q) (drop_of_length-le s h) ∙ append-nil bytes

pub sheet_ran : (s : List ℕ) (o : Outline) → sheet_read s ≡ Ok o → SheetRan s o
unfolding sheet_meant encode rules_at
sheet_ran s o e =
    let p = parts s o e in
    let a = limited s 0 atoms_most p.edition.next p.atoms p.second in
    let c = limited s 0 rules_most p.atoms.next p.count p.third in
    let k = run_keeps (rule_step s o.atoms) p.count.value 0 _ o.rules p.fourth in
    let r = rules_ran s o.atoms p.count.value 0 _ o.rules p.fourth in
    let i = list_ran s 0 o.atoms o.rules.next o.ins p.fifth in
    let u = list_ran s 0 o.atoms o.ins.next o.outs p.sixth in
    let same : rules_from p.count.value s o.atoms p.count.next
    ≡ rules_from o.rules.value s o.atoms o.rules.first =
    ap₂ (λ (j f : ℕ). rules_from j s o.atoms f) (sym k.0) (sym k.1) in
    let size : length (rules_from o.rules.value s o.atoms o.rules.first) ≡ o.rules.value =
    sym (ap length same) ∙ r.count ∙ sym k.0 in
    record {
      well_formed = record {
        atoms = omega (arith, a.high, p.atoms_are);
        count = omega (arith, size, k.0, c.high);
        rules = subst (λ (rs : List Rule). ProperRules o.atoms rs) same r.propers;
        living = subst (λ (rs : List Rule). AllLiving rs) same r.living;
        compute_in = i.rising;
        compute_out = u.rising;
      };
      count = size;
      reads = ap₂ (λ (j f : ℕ). rules_at s o.atoms j f) k.0 k.1 ∙ p.fourth;
      far =
          omega (
            arith,
            number_far s 0 p.edition p.first.0,
            number_far s p.edition.next p.atoms a.number,
            number_far s p.atoms.next p.count c.number,
            r.far,
            ap rules_size same,
            ap length same,
            r.count,
            i.far,
            i.count,
            u.far,
            u.count,
            u.ends,
          );
      short = p.short;
      bytes = λ is.
          whole_bytes s _ o.outs.next p.ends
          (joined
          (joined (stands_as (ap (λ (v : ℕ). number_bytes v) p.first.1) (number_bytes_law s is 0 p.edition p.first.0))
          (joined
          (stands_as (ap (λ (v : ℕ). number_bytes v) (sym p.atoms_are)) (number_bytes_law s is p.edition.next p.atoms a.number))
          (joined
          (stands_as (ap (λ (v : ℕ). number_bytes v) (sym k.0 ∙ sym size)) (number_bytes_law s is p.atoms.next p.count c.number))
          (stands_as (ap (λ (rs : List Rule). rules_bytes rs) same) (r.bytes is)))))
          (joined (i.bytes is) (u.bytes is)));
    }
