-- What several proofs share; the proof of a law is in the folder of its name.

-- leases of a clock that counts later
mod Later
-- by which clock a server goes on, and the last time of a file
mod Onwards
-- a server that begins with another number of rows
mod Rows
-- a start that goes on with what a crash left
pub mod Started
-- one end of a world changes, and what was sent of it
mod Ends
-- what a host says to who sent it a datagram
mod Saying
-- an act of a server, and one of a host, is a run of the world
mod ServerActs
mod HostActs
-- so are all lives of a network
mod Lives
-- a node whose server is at another address, and a network of a server with several
mod Readdressed
mod Addressed
-- what is known of the clocks along a wire
mod Judging
-- turns are acts
mod HostTurns
mod ServerTurns
-- lives by a clock that shows a constant more, and a server's after a restart
mod Restarts
mod HostsLater
-- calls of several devices in one order, and parts of a life with them
pub mod Ordering
mod Parts
-- a life that is cut off
mod Cutting
-- all turns of what stays up
pub mod Staying
-- a host's turns with its devices, and a whole host
mod HostParts
mod HostWhole
-- a server over any number of crashes
mod Again
-- what stands before a server
mod Fronting
-- a server's turns with its devices, with a state and without one
mod ServerParts
mod UnkeptParts
-- a look at its file
mod Looks
-- a port that changes between its calls
mod Changing
-- a server at work with its devices
pub mod Working
pub mod BareWorking
-- a server that grants a free name, and a node that asks for one and hears that
mod Granting
mod Asking
-- a network that goes on by these acts, and what else could come of them
mod Getting
mod Surely
-- a host that can get a name, and a new network with one
mod Readying
mod NewWire
mod Beginning
-- the header that a crash of a file and of a disk leaves, and what a start finds then
mod Headed
mod HeadersLeft
mod StoreCalls
mod RunsWell
pub mod Finding
