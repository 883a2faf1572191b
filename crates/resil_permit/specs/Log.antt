-- One legal log that many seats see. A seat is what one thread acts with; the log is the list of all events, in one order. Running code can't read
-- the log or what a seat has seen of it: only contracts can. A protocol of this kind is an instance: it says what its events are, which lists of them
-- are legal under a key (say a number of permits), and which events are a seat's own.
pub mod Seen
pub mod Seats
