use Rattle.std.proofs.Common.{◌≤◌, ◌+◌, ◌*◌, ◌/◌, length, refl, sym, ◌∙◌, arith}
use Rattle.std.proofs.lemmas.Bool.{false≢true}
use Rattle.frag_join.proofs.BufferLemmas.{cleared-free, cleared-length}
use Rattle.frag_join.proofs.buffer.Buffer.clear.Goals as goal

pub invariant_of-self : goal.invariant_of-self
invariant_of-self c =
    let b = c.self.inside in
    let held = c.mark.new.held.items in
    let whole = c.self.invariant in
    let enough : b.reach ≤ (b.reach + 7) / 8 * 8 = omega arith in
    let within : (b.reach + 7) / 8 ≤ length b.held.items = omega (arith, whole.fits, whole.units) in
    record {
      octets = whole.octets;
      units = cleared-length b held ((b.reach + 7) / 8) within c.mark.ensures ∙ whole.units;
      fits = omega arith;
      counted = refl;
      free = λ unit past. cleared-free b held ((b.reach + 7) / 8) whole enough within c.mark.ensures unit;
      even = λ ended. refl;
      some = λ ended. absurd (false≢true ended);
      headed = λ first. absurd (false≢true (sym (cleared-free b held ((b.reach + 7) / 8) whole enough within c.mark.ensures 0) ∙ first));
    }
