-- A buffer of the list takes a fragment.
use Rattle.std.proofs.Common.{◌≡◌, ℕ, ◌<◌, true, false, List, length, get_or, set, Some, None, subst, sym, ap, ◌∙◌, slice_get, remove, get_or-set_same}
use Rattle.std.proofs.lemmas.Option.{slice_get_within, slice_get-get_or, get_or_from_slice_get}
use Rattle.gate_base.specs.Prelude.{Event}
use Rattle.gate_base.proofs.Lists.{remove_set}
use Rattle.frag_join.specs.declared.part.Part.{Part}
use Rattle.frag_join.specs.declared.taken.Taken.TheVariants.{Held, Joined}
use Rattle.frag_join.specs.Prelude.{Fragment, fragment_in, Coverage, Step, added, is_bad, is_complete, datagram_of, by_known, event_from, with_fragment, known_at, put_at}
use Rattle.frag_join.specs.Inside.Kept.{known_or_nothing}
use Rattle.frag_join.proofs.StepLemmas.{settled-held, settled-joined}

abbrev pub with_kept : Part Coverage → Coverage → Part Coverage
with_kept part kept = record { name = part.name; since = part.since; kept = kept }

-- what is good for the datagram at a place is so for the buffer there
pub good-there : (parts seen : List (Part Coverage)) (place : ℕ) (now : Part Coverage) (f : Fragment) → parts ≡ seen → place < length seen
    → now ≡ get_or parts place now → is_bad (known_at seen (Some place)) f ≡ false → is_bad now.kept f ≡ false
good-there parts seen place now f same within read good =
    let there : slice_get seen place ≡ Some now = slice_get-get_or seen place now within
    ∙ ap Some (sym (read ∙ ap (λ all. get_or all place now) same)) in
    ap (λ o. is_bad (known_or_nothing o) f) (sym there) ∙ good

-- what was put into a part is complete where that part is taken out
pub complete-there : (parts seen : List (Part Coverage)) (place : ℕ) (now removed : Part Coverage) (kept : Coverage) → parts ≡ seen
    → place < length seen → removed ≡ get_or (set parts place (with_kept now kept)) place removed → is_complete kept ≡ true
    → is_complete removed.kept ≡ true
complete-there parts seen place now removed kept same within removed_is complete =
    let gone : removed ≡ with_kept now kept = removed_is ∙ get_or-set_same parts place (with_kept now kept) removed
    (subst (λ all. place < length all) (sym same) within) in
    ap (λ p. is_complete p.kept) gone ∙ complete

-- a fragment is put into the part at a place
module _ (parts seen : List (Part Coverage)) (place : ℕ) (e : Event) (part now : Part Coverage) (kept : Coverage) (f : Fragment) (same : parts ≡ seen)
    (there : slice_get seen place ≡ Some part) (read : now ≡ get_or parts place now) (put : kept ≡ added now.kept f) (is : f ≡ fragment_in e) where
  -- the buffer there is that part's
  now-is : now ≡ part
  now-is = read ∙ ap (λ all. get_or all place now) same ∙ get_or_from_slice_get seen place part now there

  -- and it has the fragment then
  kept-is : kept ≡ added part.kept (fragment_in e)
  kept-is = put ∙ ap (λ p. added p.kept f) now-is ∙ ap (added part.kept) is

  -- what isn't complete stays in its place
  pub put-held : is_complete kept ≡ false → record { answer = Held; state = record { parts = set parts place (with_kept now kept); joined = None } }
      ≡ put_at seen place e part
  put-held incomplete =
      ap (λ all. record { answer = Held; state = record { parts = set all place (with_kept now kept); joined = None } }) same
      ∙ ap (λ p. record { answer = Held; state = record { parts = set seen place (with_kept p kept); joined = None } }) now-is
      ∙ ap (λ k. record { answer = Held; state = record { parts = set seen place (with_kept part k); joined = None } }) kept-is
      ∙ sym (settled-held by_known seen (Some place) e (with_fragment by_known part e) (ap is_complete (sym kept-is) ∙ incomplete))

  -- what completes its datagram leaves the list without it
  pub put-joined : (later : List (Part Coverage)) (removed : Part Coverage) (event : Event) → is_complete kept ≡ true
      → later ≡ remove (set parts place (with_kept now kept)) place → removed ≡ get_or (set parts place (with_kept now kept)) place removed
      → event ≡ event_from e.side e.moment (datagram_of removed.kept)
      → record { answer = Joined; state = record { parts = later; joined = Some event } } ≡ put_at seen place e part
  put-joined later removed event complete later_is removed_is event_is =
      let gone : removed ≡ with_kept now kept = removed_is ∙ get_or-set_same parts place (with_kept now kept) removed
      (subst (λ all. place < length all) (sym same) (slice_get_within seen place part there)) in
      let rest : later ≡ remove seen place = later_is ∙ remove_set parts place (with_kept now kept) ∙ ap (λ all. remove all place) same in
      let whole : event ≡ event_from e.side e.moment (datagram_of (added part.kept (fragment_in e))) = event_is
      ∙ ap (λ p. event_from e.side e.moment (datagram_of p.kept)) gone ∙ ap (λ k. event_from e.side e.moment (datagram_of k)) kept-is in
      let joined : ◌≡◌ {A = Step Coverage} (record { answer = Joined; state = record { parts = later; joined = Some event } })
      (record {
        answer = Joined;
        state = record { parts = remove seen place; joined = Some (event_from e.side e.moment (datagram_of (added part.kept (fragment_in e)))) };
      }) = λ i. record { answer = Joined; state = record { parts = rest i; joined = Some (whole i) } } in
      joined ∙ sym (settled-joined by_known seen (Some place) e (with_fragment by_known part e) (ap is_complete (sym kept-is) ∙ complete))
