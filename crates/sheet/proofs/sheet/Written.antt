-- What is written for a sheet within the limits is accepted, and means that sheet: each part is read as what was written for it, and
-- nothing is left.
use Prim.Native.Nat.{ℕ, zero, suc, ◌+◌, ◌-◌, ◌≤◌}
use mathlib.Core.Path.{◌≡◌, refl, sym, ap, ap₂, ◌∙◌}
use mathlib.Core.List.Memᴰ
use mathlib.Core.List.{List, [], ◌∷◌, ◌++◌, flat_map, append_assoc, append-nil}
use native.Mathlib.Omega.{arith}
use lib.ListN.{length, drop, length-drop, length-append}
use borrow.Author.Tests.{le-ltb}
use Rattle.std.specs.Prelude.{Result, Ok, Err}
use Rattle.rules.specs.Limits.{number_most, atoms_most, rules_most, bytes_most}
use Rattle.rules.specs.Rule.{Rule, Sheet}
use Rattle.rules.specs.Sum.{pick}
use Rattle.numbers.specs.Answer.{read_then, span}
use Rattle.numbers.specs.Lists.{in_turn, up_to, numbers_of}
use Rattle.numbers.specs.Shown.Encode.{number_bytes, list_bytes, Rising}
use Rattle.numbers.specs.declared.Span.{Span}
use Rattle.numbers.specs.declared.Refusal.{Refusal}
use Rattle.numbers.proofs.number.Encoded.{number_read, past}
use Rattle.numbers.proofs.lists.Whole.{list_span, within_read, list_read, list_numbers, list_past_law}
use Rattle.sheet.specs.Rule.{rule_step, rules_at}
use Rattle.sheet.specs.Sheet.{edition_at, tail_at, rest_at, whole_at, sheet_read}
use Rattle.sheet.specs.Meaning.{rules_from, sheet_meant, accepted, refused, sheet_of}
use Rattle.sheet.specs.Shown.Encode.{rule_bytes, rules_bytes, first_bytes, encode, AllLiving, WellFormed, ProperRules, no_rules, and_rule}
use Rattle.sheet.specs.declared.SheetRule.{SheetRule}
use Rattle.sheet.specs.declared.Outline.{Outline}
use Rattle.sheet.proofs.Places.{rule_within}
use Rattle.sheet.proofs.rule.Laws.{step_got}
use Rattle.sheet.proofs.rule.Written.{rule_written, living_read}
use Rattle.sheet.proofs.sheet.Rules.{rules_more}

-- a rule that was read ends where what was written for it ends
after_rule :
    (s : List ℕ) (at : ℕ) (t : Rule) (q : List ℕ) (r : SheetRule) → r.next ≤ length s → at ≤ length s → drop at s ≡ rule_bytes t ++ q
    → drop r.next s ≡ q → r.next ≡ at + length (rule_bytes t)
after_rule s at t q r w h d rest =
    omega (
      arith,
      length-drop at s,
      ap length d,
      length-append (rule_bytes t) q,
      length-drop r.next s,
      ap length rest,
    )

-- rules that were written, as the first of a run: the turns that are left go on from their end
pub record RulesWritten (s : List ℕ) (n before turns : ℕ) (rs : List Rule) (q : List ℕ) (done : Span) : Type 0 where
  pub runs :
      in_turn (rule_step s n) turns before done
      ≡ in_turn (rule_step s n) (turns - length rs) before (up_to done (done.next + length (rules_bytes rs)))
  pub means : rules_from (length rs) s n done.next ≡ rs
  pub rest : drop (done.next + length (rules_bytes rs)) s ≡ q

pub rules_written :
    (s : List ℕ) (n before turns : ℕ) → n ≤ number_most → {rs : List Rule} → ProperRules n rs → AllLiving rs → length rs ≤ turns
    → (done : Span) (q : List ℕ) → done.next ≤ length s → drop done.next s ≡ rules_bytes rs ++ q
    → RulesWritten s n before turns rs q done
unfolding in_turn rules_from flat_map read_then
rules_written s n before turns m no_rules l few done q h d =
    let z : done.next ≡ done.next + 0 = omega arith in
    let y : turns ≡ turns - 0 = omega arith in
    record {
      runs = ap₂ (λ (k p : ℕ). in_turn (rule_step s n) k before (up_to done p)) y z;
      means = refl;
      rest = ap (λ (p : ℕ). drop p s) (sym z) ∙ d;
    }
rules_written s n before zero m (and_rule proper others) l few done q h d = absurd (omega arith)
rules_written s n before (suc turns) m (and_rule {r = t} {rs = rs} proper others) l few done q h d =
    let d' = d ∙ append_assoc (rule_bytes t) (rules_bytes rs) q in
    let g = rule_written s n done.next m t (rules_bytes rs ++ q) proper d' in
    let r = g.0 in
    let e = living_read g.1 (l t (Memᴰ.head refl)) in
    let w = rule_within s n done.next h r e in
    let o = rules_written s n before turns m others (λ u i. l u (Memᴰ.tail i)) (omega arith) (up_to done r.next) q w g.1.rest in
    let place : r.next + length (rules_bytes rs) ≡ done.next + length (rule_bytes t ++ rules_bytes rs) =
    omega (
      arith,
      after_rule s done.next t (rules_bytes rs ++ q) r w h d' g.1.rest,
      length-append (rule_bytes t) (rules_bytes rs),
    ) in
    let left : turns - length rs ≡ suc turns - suc (length rs) = omega arith in
    record {
      runs =
          ap (λ (a : Result Span Refusal). read_then Err a (λ one. in_turn (rule_step s n) turns one.value (up_to done one.next)))
          (step_got s n before done.next _ r refl e)
          ∙ o.runs
          ∙ ap₂ (λ (k p : ℕ). in_turn (rule_step s n) k before (up_to done p)) left place;
      means = rules_more s n (length rs) done.next r e ∙ ap₂ (λ (a : Rule) (l : List Rule). a ∷ l) g.1.means o.means;
      rest = ap (λ (p : ℕ). drop p s) (sym place) ∙ o.rest;
    }

-- nothing stands past the last byte
at_end_law : (s : List ℕ) (next : ℕ) → drop next s ≡ [] → length s ≤ next
at_end_law s next d = omega (arith, ap length d, length-drop next s)

-- compute lists that were written, up to the end
pub record TailWritten (s : List ℕ) (n : ℕ) (rules : Span) (xs ys : List ℕ) : Type 0 where
  pub ins : Span
  pub outs : Span
  pub reads : tail_at s n rules ≡ Ok (record { atoms = n; rules = rules; ins = ins; outs = outs })
  pub ins_are : numbers_of s ins ≡ xs
  pub outs_are : numbers_of s outs ≡ ys

tail_written :
    (s : List ℕ) (n : ℕ) (rules : Span) (xs ys : List ℕ) → n ≤ number_most → Rising n xs → Rising n ys
    → drop rules.next s ≡ list_bytes xs ++ list_bytes ys → TailWritten s n rules xs ys
unfolding tail_at read_then pick
tail_written s n rules xs ys m rx ry d =
    let a : ℕ = rules.next + length (list_bytes xs) in
    let d₂ : drop a s ≡ list_bytes ys ++ [] = list_past_law s 0 n rules.next xs (list_bytes ys) m rx d ∙ sym (append-nil (list_bytes ys)) in
    let end : length s ≤ a + length (list_bytes ys) = at_end_law s _ (list_past_law s 0 n a ys [] m ry d₂) in
    record {
      ins = list_span rules.next xs;
      outs = list_span a ys;
      reads =
          simp (
            list_read s 0 n rules.next xs (list_bytes ys) m rx d (omega arith),
            list_read s 0 n a ys [] m ry d₂ (omega arith),
            le-ltb (a + length (list_bytes ys)) (length s) end,
          );
      ins_are = list_numbers s 0 n rules.next xs (list_bytes ys) m rx d;
      outs_are = list_numbers s 0 n a ys [] m ry d₂;
    }

pub atoms_small : (v : ℕ) → v ≤ atoms_most → v ≤ number_most
unfolding atoms_most number_most
atoms_small v h = omega arith

rules_small : (v : ℕ) → v ≤ rules_most → v ≤ number_most
unfolding rules_most number_most
rules_small v h = omega arith

sheet_is :
    (s : List ℕ) (n : ℕ) (p i u : Span) (sh : Sheet) → n ≡ sh.atoms → rules_from p.value s n p.first ≡ sh.rules
    → numbers_of s i ≡ sh.compute_in → numbers_of s u ≡ sh.compute_out
    → sheet_meant s (record { atoms = n; rules = p; ins = i; outs = u }) ≡ sh
unfolding sheet_meant
sheet_is s n p i u sh e f g h =
    λ j. record { atoms = e j; rules = f j; compute_in = g j; compute_out = h j }

pub meant : (s : List ℕ) (o : Outline) → sheet_read s ≡ Ok o → sheet_of s ≡ accepted (sheet_meant s o)
unfolding sheet_of read_then
meant s o e = ap (λ (c : Result Outline Refusal). read_then refused c (λ o. accepted (sheet_meant s o))) e

-- the edition and the counts, written before rules: what is left to read is the rules, and what comes after them
pub record CountsWritten (s : List ℕ) (n count : ℕ) (rs : List Rule) (q : List ℕ) : Type 0 where
  pub place : ℕ
  pub reads : sheet_read s ≡ read_then Err (rules_at s n count place) (λ rules. tail_at s n rules)
  pub within : place ≤ length s
  pub ends : place + length (rules_bytes rs) ≡ length (first_bytes n count rs)
  pub rest : drop place s ≡ rules_bytes rs ++ q

pub counts_written :
    (s : List ℕ) (n count : ℕ) (rs : List Rule) (q : List ℕ) → n ≤ atoms_most → count ≤ rules_most → length s ≤ bytes_most
    → s ≡ first_bytes n count rs ++ q → CountsWritten s n count rs q
unfolding sheet_read whole_at edition_at rest_at read_then pick number_most
counts_written s n count rs q few_atoms few_rules l e =
    let x : List ℕ = rules_bytes rs ++ q in
    let d : s ≡ number_bytes 1 ++ (number_bytes n ++ (number_bytes count ++ x)) =
    e ∙ regroup (number_bytes 1) (number_bytes n) (number_bytes count) (rules_bytes rs) q in
    let a₁ : ℕ = 0 + length (number_bytes 1) in
    let d₁ = past s (number_bytes 1) _ 0 d in
    let a₂ : ℕ = a₁ + length (number_bytes n) in
    let d₂ = past s (number_bytes n) _ a₁ d₁ in
    let a₃ : ℕ = a₂ + length (number_bytes count) in
    let ends : a₃ + length (rules_bytes rs) ≡ length (first_bytes n count rs) =
    omega (
      arith,
      length-append (number_bytes 1) (number_bytes n ++ (number_bytes count ++ rules_bytes rs)),
      length-append (number_bytes n) (number_bytes count ++ rules_bytes rs),
      length-append (number_bytes count) (rules_bytes rs),
    ) in
    record {
      place = a₃;
      reads =
          simp (
            le-ltb bytes_most (length s) l,
            number_read s 0 1 _ (omega arith) d,
            within_read s 0 atoms_most a₁ (span n a₁ a₂) (number_read s a₁ n _ (atoms_small n few_atoms) d₁) (omega arith) few_atoms,
            within_read s 0 rules_most a₂ (span count a₂ a₃) (number_read s a₂ count _ (rules_small count few_rules) d₂) (omega arith) few_rules,
          );
      within = omega (arith, ends, ap length e, length-append (first_bytes n count rs) q);
      ends = ends;
      rest = past s (number_bytes count) _ a₂ d₂;
    }
  where
    regroup : (a b c f g : List ℕ) → (a ++ (b ++ (c ++ f))) ++ g ≡ a ++ (b ++ (c ++ (f ++ g)))
    regroup a b c f g = simp append_assoc

pub sheet_written : (s : List ℕ) (sh : Sheet) → WellFormed sh → s ≡ encode sh → length s ≤ bytes_most → sheet_of s ≡ accepted sh
unfolding encode rules_at in_turn read_then
sheet_written s sh w d l =
    let n : ℕ = sh.atoms in
    let c : ℕ = length sh.rules in
    let q : List ℕ = list_bytes sh.compute_in ++ list_bytes sh.compute_out in
    let m : n ≤ number_most = atoms_small n w.atoms in
    let b = counts_written s n c sh.rules q w.atoms w.count l d in
    let a : ℕ = b.place in
    let g = rules_written s n 0 c m w.rules w.living (omega arith) (span c a a) q b.within b.rest in
    let p : Span = span c a (a + length (rules_bytes sh.rules)) in
    let z : c - c ≡ 0 = omega arith in
    let ran : rules_at s n c a ≡ Ok p = g.runs ∙ ap (λ (k : ℕ). in_turn (rule_step s n) k 0 p) z in
    let t = tail_written s n p sh.compute_in sh.compute_out m w.compute_in w.compute_out g.rest in
    let o : Outline = record { atoms = n; rules = p; ins = t.ins; outs = t.outs } in
    let read : sheet_read s ≡ Ok o =
    b.reads ∙ ap (λ (r : Result Span Refusal). read_then Err r (λ rules. tail_at s n rules)) ran ∙ t.reads in
    meant s o read ∙ ap accepted (sheet_is s n p t.ins t.outs sh refl g.means t.ins_are t.outs_are)
