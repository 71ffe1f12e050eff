-- What a reader must believe, in document 01's order: what was agreed, the answers, the sender, the receiver, the plain sender, runs of both, the demands, the
-- marked cases. SenderParts and ReceiverParts are for private functions only.
pub mod Agreed
pub mod Answers
pub mod Sender
pub mod SenderParts
pub mod Receiver
pub mod ReceiverParts
pub mod PlainSender
pub mod EachCall
pub mod Runs
pub mod Progress
pub mod Demands
pub mod PlainReading
pub mod Marked
pub mod Examples
pub mod PlainExamples
