-- Load: the frame written at the area's start, and the cases past the first two tests.
use mathlib.Core.Path.{◌≡◌}
use mathlib.Core.Bool.{true, false, ◌||◌}
use mathlib.Core.List.{List, ◌++◌}
use Prim.Native.Nat.{ℕ, ◌+◌, ◌≤◌, ◌<◌}
use native.Mathlib.Nat.{zero-add}
use borrow.Author.Tests.{lt-ltb, le-ltb}
use lib.Dec.{ltb}
use lib.ListN.{length, drop, length-append}
use lib.Seq.{take-append_seam, drop-append-add, drop-drop}
use Rattle.fcs.specs.CheckSequence.{fcs}
use Rattle.fcs.proofs.Laws.{fcs-length}
use Rattle.link.specs.Agreed.{Agreed, agreed, valid, least_packet, largest_frame}
use Rattle.link.specs.Answers.{done, refused}
use Rattle.link.specs.Receiver.{write}
use Rattle.link.specs.Sender.{Lane, Sender, Load, lane_state, with_lane, in_bounds, put_frame, load}

-- the packet at the area's start, and its FCS behind it
written : (packet f area : List ℕ) → write (write area 0 packet) (length packet) f ≡ (packet ++ f) ++ drop (length (packet ++ f)) area
written packet f area = rw (zero-add, take-append_seam packet, drop-append-add packet, drop-drop, length-append)

-- what `put_frame` says
pub put_is : (g : Agreed) (l : Lane) (packet : List ℕ) (s : Sender) (area : List ℕ)
    → ◌≡◌ {A = Load} (record {
      answer = done;
      state = with_lane l (record { length = length packet + g.check.fcs_length; position = 0 }) s;
      area = write (write area 0 packet) (length packet) (fcs g.check packet);
    }) (put_frame g l packet s area)
unfolding put_frame
put_is g l packet s area =
    rw (written packet (fcs g.check packet) area, length-append packet (fcs g.check packet), fcs-length g.check packet)

-- past the tests of area and state
module _ (l : Lane) (packet : List ℕ) (s : Sender) (area : List ℕ) (v : valid (agreed s.settings) ≡ true) (long : largest_frame (agreed s.settings) ≤ length area) (ok : in_bounds (agreed s.settings) s ≡ true) where
  pub holds-a-frame : 0 < (lane_state l s).length → load l packet s area ≡ record { answer = refused 4; state = s; area = area }
  unfolding load
  holds-a-frame h = simp (v, le-ltb _ _ long, ok, lt-ltb _ _ h)

  module _ (empty : (lane_state l s).length ≤ 0) where
    pub not-a-packet : (ltb (length packet) least_packet || ltb (agreed s.settings).limit (length packet)) ≡ true
        → load l packet s area ≡ record { answer = refused 1; state = s; area = area }
    unfolding load
    not-a-packet e = simp (v, le-ltb _ _ long, ok, le-ltb _ _ empty, e)

    pub taken : (ltb (length packet) least_packet || ltb (agreed s.settings).limit (length packet)) ≡ false
        → load l packet s area ≡ put_frame (agreed s.settings) l packet s area
    unfolding load
    taken e = simp (v, le-ltb _ _ long, ok, le-ltb _ _ empty, e)
