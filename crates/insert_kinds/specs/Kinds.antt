-- The code's kinds as the definitions have them (REFERENCE, Insert).
use Rattle.std.specs.Prelude.{Option, Some, None}
use Rattle.definitions.specs.Insert.{
  Named,
  by_pointer,
  by_slot,
  InsertKind,
  Disconnected as Disconnected₁,
  SingleLinkCyclic as SingleLinkCyclic₁,
  ChainEnd as ChainEnd₁,
  ChainStart as ChainStart₁,
  NextTo as NextTo₁,
  PrevTo as PrevTo₁,
  AtInterlink as AtInterlink₁,
  Bridge as Bridge₁,
  Coded,
  kind,
  unknown,
}
use Rattle.ptr.specs.Pointers.{pointer_of}
use Rattle.ptr.specs.declared.Ptr.{Ptr}
use Rattle.ptr.specs.declared.Slot.{Slot}
use Rattle.insert_kinds.specs.declared.Kind.{Kind}
use Rattle.insert_kinds.specs.declared.Kind.TheVariants.{ChainEnd, ChainStart, NextTo, PrevTo, AtInterlink, Bridge}
use Rattle.insert_kinds.specs.declared.LinkInsertKind.{LinkInsertKind}
use Rattle.insert_kinds.specs.declared.LinkInsertKind.TheVariants.{Disconnected, SingleLinkCyclic, ByPtr, ByInx}

-- a link as it is named by its pointer, and by its slot
abbrev pub ptr_name : Ptr → Named
ptr_name p = by_pointer (pointer_of p)

abbrev pub slot_name : Slot → Named
slot_name s = by_slot s.0

-- a kind beside links, each of which is named as `name` says
abbrev pub kind_beside : {L : Type 0} → (L → Named) → Kind L → InsertKind
kind_beside name (ChainEnd p) = ChainEnd₁ (name p)
kind_beside name (ChainStart p) = ChainStart₁ (name p)
kind_beside name (NextTo p) = NextTo₁ (name p)
kind_beside name (PrevTo p) = PrevTo₁ (name p)
kind_beside name (AtInterlink p q) = AtInterlink₁ (name p) (name q)
kind_beside name (Bridge p q) = Bridge₁ (name p) (name q)

abbrev pub insert_kind_of : LinkInsertKind → InsertKind
insert_kind_of Disconnected = Disconnected₁
insert_kind_of SingleLinkCyclic = SingleLinkCyclic₁
insert_kind_of (ByPtr k) = kind_beside ptr_name k
insert_kind_of (ByInx k) = kind_beside slot_name k

abbrev pub coded_of : Option LinkInsertKind → Coded
coded_of (Some k) = kind (insert_kind_of k)
coded_of None = unknown
