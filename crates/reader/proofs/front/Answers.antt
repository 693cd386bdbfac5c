-- `front` meets its contract: its tests are the rule's, 1 and then 2.
use mathlib.Core.Path.{refl}
use borrow.Author.Tests.{lt-ltb, le-ltb}
use Rattle.words.specs.Bounds.{least_room}
use Rattle.words.proofs.Choices.{taken, passed}
use Rattle.reader.specs.Fronts.{front_of}
use Rattle.reader.proofs.front.Goals as goal

pub returns-then-room-lt-ROOM : goal.returns-then-room-lt-ROOM
unfolding front_of
returns-then-room-lt-ROOM c = taken _ (lt-ltb _ least_room c.if-room-lt-ROOM.true)

pub returns-then-msg-lt10 : goal.returns-then-msg-lt10
unfolding front_of
returns-then-msg-lt10 c = passed _ (le-ltb _ least_room c.if-room-lt-ROOM.false) (taken _ (lt-ltb _ 10 c.if-msg-lt10.true))

pub returns : goal.returns
unfolding front_of
returns c = passed _ (le-ltb _ least_room c.if-room-lt-ROOM.false) (passed _ (le-ltb _ 10 c.if-msg-lt10.false) refl)
