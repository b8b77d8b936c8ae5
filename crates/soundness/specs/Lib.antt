pub mod Sound
pub mod Origins
