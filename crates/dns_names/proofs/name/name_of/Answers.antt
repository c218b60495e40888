use Rattle.std.proofs.Common.{◌≡◌, ℕ, ◌+◌, ◌≤◌, ◌++◌, ◌∷◌, List, Option, length, subst, ap, ◌∙◌, arith, sym, append_assoc, append-nil, length-append}
use Rattle.dns_names.proofs.Walking.{run, run-length, run-label, run-none, Reads, Reads-name, Reads-root, Reads-label, Reads-pointer, Reads-nothing, Reads-up, Reads-long}
use Rattle.dns_names.proofs.name.name_of.Goals as goal

read_as : (m : List ℕ) (place start at : ℕ) (after : Option ℕ) (one other : List ℕ) → one ≡ other → Reads m place start at one after
    → Reads m place start at other after
read_as m place start at after one other same r = subst (λ (o : List ℕ). Reads m place start at o after) same r

pub invariant_of-result : goal.invariant_of-result
invariant_of-result c = Reads-name _ _ _ _ _ _ (read_as _ _ _ _ _ _ _ (sym c.in_ok-extend_from_slice-in-Root.ensures.items) c.pieces.invariant.reads)

pub returns-in-Root-clause-found : goal.returns-in-Root-clause-found
returns-in-Root-clause-found c = rw c.unwrap_or-end.ensures
    (Reads-root _ _ _ _ _ _ (read_as _ _ _ _ _ _ _ (sym c.in_ok-extend_from_slice-in-Root.ensures.items) c.pieces.invariant.reads)
    c.in-Root.ensures.is)

pub returns-then-len-next-gt254-clause-none : goal.returns-then-len-next-gt254-clause-none
returns-then-len-next-gt254-clause-none c = λ _ ls a n.
    let m = c.args.message.now in
    let size = run-length m c.pieces.from c.pieces.at c.pieces.invariant.order (omega (arith, c.in-Label.ensures.within)) in
    Reads-long _ _ _ _ _ _ c.in-Label.label.now c.pieces.invariant.reads c.in-Label.ensures.is
    (omega (
      arith,
      c.pieces.octets.ok.0,
      size,
      c.pieces.invariant.order,
      c.if-len-next-gt254.true,
      length-append c.pieces.octets.items (run m c.pieces.from c.pieces.at),
    )) ls a n

pub pieces-preserved-in-Label : goal.pieces-preserved-in-Label
pieces-preserved-in-Label c =
    let m = c.args.message.now in
    let octets = c.pieces.octets.items in
    let l = c.in-Label.label.now in
    let before = run m c.pieces.from c.pieces.at in
    let size = run-length m c.pieces.from c.pieces.at c.pieces.invariant.order (omega (arith, c.in-Label.ensures.within)) in
    let fits : length (octets ++ before) + 1 + length l ≤ 254 =
    omega (arith, c.pieces.octets.ok.0, size, c.pieces.invariant.order, c.if-len-next-gt254.false, length-append octets before) in
    let next = Reads-label _ _ _ _ _ _ l c.pieces.invariant.reads c.in-Label.ensures.is fits in
    record {
      order = omega (arith, c.pieces.invariant.order);
      reads = read_as _ _ _ _ _ _ _
          (append_assoc octets before (length l ∷ l) ∙ ap (λ (x : List ℕ). octets ++ x)
          (sym (run-label m c.pieces.from c.pieces.at l c.pieces.invariant.order c.in-Label.ensures.is))) next;
    }

pub returns-then-to-start-clause-none : goal.returns-then-to-start-clause-none
returns-then-to-start-clause-none c = λ _ ls a n.
    Reads-up _ _ _ _ _ _ c.in-Pointer.to c.pieces.invariant.reads c.in-Pointer.ensures.is (omega arith) ls a n

pub pieces-preserved : goal.pieces-preserved
pieces-preserved c =
    let m = c.args.message.now in
    let octets = c.extend_from_slice-in-Pointer.new.self.items in
    let read = read_as _ _ _ _ _ _ _ (sym c.in_ok-extend_from_slice-in-Pointer.ensures.items) c.pieces.invariant.reads in
    let on = Reads-pointer _ _ _ _ _ _ c.in-Pointer.to read c.in-Pointer.ensures.is (omega arith) in
    record {
      order = omega arith;
      reads = read_as _ _ _ _ _ _ _ (sym (ap (λ (x : List ℕ). octets ++ x) (run-none m c.in-Pointer.to) ∙ append-nil octets))
          (rw c.or-after.ensures on);
    }

pub returns-in-Nothing-clause-none : goal.returns-in-Nothing-clause-none
returns-in-Nothing-clause-none c = λ _ ls a n. Reads-nothing _ _ _ _ _ _ c.pieces.invariant.reads c.in-Nothing.ensures.is ls a n
