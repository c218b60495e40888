use Rattle.std.proofs.Common.{◌≡◌, ◌-◌, ◌≤◌, ◌++◌, ◌∷◌, [], ℕ, List, length, cond, refl, sym, ap, subst, ◌∙◌, arith, append_assoc, true, nat_lt, lt-ltb}
use Rattle.std.proofs.lemmas.List.{nil_from_length}
use Rattle.dns_names.specs.Prelude.{piece_at, octets_of, known_by, AreKnown, IsMemo, Joins, Leads}
use Rattle.dns_names.specs.declared.known.Known.{Known}
use Rattle.dns_names.specs.declared.memo.Memo.{Memo}
use Rattle.dns_names.proofs.Trails.{SteppedBack, stepped-back, are-known-more, below-back, joined, here}
use Rattle.dns_names.proofs.memo.find.Goals as goal

-- what is kept grows
memo-grows : (m : List ℕ) (old new : Memo) (more : List ℕ) → IsMemo m old → new.known ≡ old.known → new.kept.items ≡ old.kept.items ++ more
    → IsMemo m new
memo-grows m old new more i same is =
    let known : AreKnown m (old.kept.items ++ more) old.known.items = are-known-more m old.kept.items more old.known.items i.known in
    record {
      places = rw same i.places;
      few = i.few;
      known = rw (same, is) known;
    }

taken-back : (m kept : List ℕ) (first : ℕ) (path path' : List ℕ) (at : ℕ) (k : Known) → Leads m kept first path' k → path' ≡ path ++ at ∷ []
    → Leads m kept first (path ++ at ∷ []) k
taken-back m kept first path path' at k leads is = subst (λ (p : List ℕ). Leads m kept first p k) is leads

pub returns-in_err-keep_end-clause-memo : goal.returns-in_err-keep_end-clause-memo
returns-in_err-keep_end-clause-memo c =
    let one = c.walk.ensures.more in
    let two = c.keep_end.ensures.more in
    memo-grows c.args.message.now c.args.memo.now _ (one.0 ++ two.0) c.requires refl
    (two.1 ∙ ap (λ (x : List ℕ). x ++ two.0) one.1 ∙ append_assoc c.args.memo.now.kept.items one.0 two.0)

pub back-init : goal.back-init
back-init c =
    let one = c.walk.ensures.more in
    let two = c.keep_end.ensures.more in
    let old = c.args.memo.now.kept.items in
    let kept = c.walk.new.kept.items in
    let k = c.in_ok-known.known in
    let join : Joins c.args.message.now old kept c.args.place c.walk.new.path.items k = c.in_ok-known.ensures.found in
    let base : c.len-base.result ≡ length old = omega (arith, c.len-base.ensures, c.args.memo.now.kept.ok.0) in
    let is = c.in_ok-keep_end.ensures.items in
    let some : 1 ≤ length kept - length old → cond (nat_lt c.len-base.result (length kept)) (octets_of kept k) [] ≡ octets_of kept k =
    λ more. (let lt : nat_lt c.len-base.result (length kept) ≡ true = lt-ltb _ _ (omega (arith, more, base)) in rw lt refl) in (
      joined c.args.message.now old kept c.keep_end.new.kept.items c.args.place c.walk.new.path.items k _ join is some,
      memo-grows c.args.message.now c.args.memo.now _ (one.0 ++ two.0) c.requires refl
          (two.1 ∙ ap (λ (x : List ℕ). x ++ two.0) one.1 ∙ append_assoc old one.0 two.0),
      omega (arith, c.len-end.ensures, c.keep_end.new.kept.ok.0),
    )

pub before-known-requires-clause-below : goal.before-known-requires-clause-below
before-known-requires-clause-below c = λ to e.
    below-back c.args.message.now c.back.memo.kept.items c.args.place c.pop.new.self.items c.in-Some.at c.back.known to
    (taken-back _ _ _ c.pop.new.self.items _ c.in-Some.at _ c.back.invariant.0 c.in-Some.ensures.items) e

pub back-preserved : goal.back-preserved
back-preserved c =
    let m = c.args.message.now in
    let kept = c.back.memo.kept.items in
    let i = c.back.invariant.1 in
    let back : SteppedBack m kept c.args.place c.pop.new.self.items c.in-Some.at
    (known_by (piece_at m c.in-Some.at) c.in-Some.at (length kept) c.back.known) =
    stepped-back m kept c.args.place c.pop.new.self.items c.in-Some.at c.back.known
    (taken-back _ _ _ c.pop.new.self.items _ c.in-Some.at _ c.back.invariant.0 c.in-Some.ensures.items) in
    let is : c.before-known.result ≡ known_by (piece_at m c.in-Some.at) c.in-Some.at (length kept) c.back.known =
    c.before-known.ensures ∙ ap (λ (n : ℕ). known_by (piece_at m c.in-Some.at) c.in-Some.at n c.back.known) c.back.invariant.2 in
    let now : SteppedBack m kept c.args.place c.pop.new.self.items c.in-Some.at c.before-known.result =
    subst (λ (k : Known). SteppedBack m kept c.args.place c.pop.new.self.items c.in-Some.at k) (sym is) back in (
      now.leads,
      record {
        places = rw c.put.ensures.len i.places;
        few = i.few;
        known = c.put.ensures.known m kept now.here i.known;
      },
      c.back.invariant.2,
    )

pub returns-clause-found : goal.returns-clause-found
returns-clause-found c =
    let m = c.args.message.now in
    let none : c.back.memo.path.items ≡ [] = nil_from_length c.back.memo.path.items
    (omega (arith, c.in_default.ensures.cases.0, c.back.memo.path.ok.0)) in
    here m c.back.memo.kept.items c.args.place c.back.known
    (subst (λ (p : List ℕ). Leads m c.back.memo.kept.items c.args.place p c.back.known) none c.back.invariant.0)
