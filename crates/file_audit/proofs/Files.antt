-- What was taken of the incoming captures and of the given files.
use Rattle.std.proofs.Common.{◌≡◌, ℕ, ◌+◌, Some, None, refl, sym, ap, ◌∙◌, drop-drop}
use Rattle.gate_desk.specs.declared.slot.Slot.TheVariants.{LeftIn, RightIn, LeftGiven, RightGiven, ReportGiven}
use Rattle.gate_desk.specs.Outside.{Outside, Trace, took}
use Rattle.gate_desk.proofs.Laws.{took-none}
use Rattle.pcap_merge.specs.declared.stop.MergeStop.{MergeStop}
use Rattle.pcap_merge.specs.declared.stop.MergeStop.TheVariants as merges
use Rattle.pcap_merge.specs.Prelude.{Merging, Reads, StopsBy}
use Rattle.file_audit.specs.Given.{ReadsGiven, TookFiles}

-- of the incoming captures alone
files_incoming : (l r : ℕ) (a b : Outside) → b.left ≡ took RightIn r (took LeftIn l a.left) → TookFiles a b
files_incoming l r a b e =
    let incoming : Trace = took RightIn r (took LeftIn l a.left) in
    record {
      left_in_count = l;
      right_in_count = r;
      left_given_count = 0;
      right_given_count = 0;
      report_given_count = 0;
      left = e
          ∙ sym (took-none ReportGiven (took RightGiven 0 (took LeftGiven 0 incoming)) ∙ took-none RightGiven (took LeftGiven 0 incoming)
          ∙ took-none LeftGiven incoming);
    }

no_incoming : (t : Trace) → took RightIn 0 (took LeftIn 0 t) ≡ t
no_incoming t = took-none RightIn (took LeftIn 0 t) ∙ took-none LeftIn t

-- nothing was read
pub files_none : (a b : Outside) → b.left ≡ a.left → TookFiles a b
files_none a b e = files_incoming 0 0 a b (e ∙ sym (no_incoming a.left))

-- the incoming captures alone were read
pub files_captures : (a b : Outside) → Reads a b → TookFiles a b
files_captures a b h = files_incoming h.left_count h.right_count a b h.left

-- the given files alone were read
pub files_given : (a b : Outside) → ReadsGiven a b → TookFiles a b
files_given a b h = record {
  left_in_count = 0;
  right_in_count = 0;
  left_given_count = h.left_count;
  right_given_count = h.right_count;
  report_given_count = h.report_count;
  left = h.left
      ∙ sym (ap (λ (t : Trace). took ReportGiven h.report_count (took RightGiven h.right_count (took LeftGiven h.left_count t)))
      (no_incoming a.left));
}

pub files_more : (i j l r k i' j' l' r' k' : ℕ) (t : Trace)
    → took ReportGiven k'
    (took RightGiven r'
    (took LeftGiven l'
    (took RightIn j' (took LeftIn i' (took ReportGiven k (took RightGiven r (took LeftGiven l (took RightIn j (took LeftIn i t)))))))))
    ≡ took ReportGiven (k + k') (took RightGiven (r + r') (took LeftGiven (l + l') (took RightIn (j + j') (took LeftIn (i + i') t))))
unfolding took
files_more i j l r k i' j' l' r' k' None = refl
files_more i j l r k i' j' l' r' k' (Some p) =
    ap Some (rw (
      drop-drop i' i p.left_in,
      drop-drop j' j p.right_in,
      drop-drop l' l p.left_given,
      drop-drop r' r p.right_given,
      drop-drop k' k p.report_given,
    ) refl)

pub files_on : (a b c : Outside) → TookFiles a b → TookFiles b c → TookFiles a c
files_on a b c h k = record {
  left_in_count = h.left_in_count + k.left_in_count;
  right_in_count = h.right_in_count + k.right_in_count;
  left_given_count = h.left_given_count + k.left_given_count;
  right_given_count = h.right_given_count + k.right_given_count;
  report_given_count = h.report_given_count + k.report_given_count;
  left = k.left
      ∙ ap (λ (t : Trace). took ReportGiven k.report_given_count
      (took RightGiven k.right_given_count (took LeftGiven k.left_given_count (took RightIn k.right_in_count (took LeftIn k.left_in_count t)))))
      h.left
      ∙ files_more h.left_in_count h.right_in_count h.left_given_count h.right_given_count h.report_given_count k.left_in_count k.right_in_count
      k.left_given_count k.right_given_count k.report_given_count a.left;
}

-- nothing was read any more
pub files_later : (a b c : Outside) → c.left ≡ b.left → TookFiles a b → TookFiles a c
files_later a b c e h = files_on a b c h (files_none b c e)

pub stop_reads : (stop : MergeStop) (m : Merging) (a b : Outside) → StopsBy stop m a b → Reads a b
stop_reads (merges.Fault side f place) m a b h = h.0
stop_reads (merges.Desk slot) m a b h = h.2.reads
stop_reads merges.OutOfMemory m a b h = absurd h

-- the merge stopped
pub files_stop : (stop : MergeStop) (m : Merging) (a b c : Outside) → TookFiles a b → StopsBy stop m b c → TookFiles a c
files_stop stop m a b c h k = files_on a b c h (files_captures b c (stop_reads stop m b c k))

-- the merge was read, and then the given files
pub files_both : (a b c d : Outside) → TookFiles a b → Reads b c → ReadsGiven c d → TookFiles a d
files_both a b c d h k l = files_on a c d (files_on a b c h (files_captures b c k)) (files_given c d l)
