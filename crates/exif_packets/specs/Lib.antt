pub mod Examples
pub mod Fields
pub mod Heads
pub mod Packets
pub mod PngPackets
pub mod Portions
pub mod RawProfiles
pub mod TextChunks
